use Rattle.std.proofs.Common.{refl, ap}
use Rattle.zvt_settle.specs.declared.settling.SettlingTill.{SettlingTill}
use Rattle.zvt_c.specs.declared.numbers.ZvtStep.{ZvtStep}
use Rattle.zvt_c.specs.Ordering.{sent, refused}
use Rattle.zvt_c.proofs.till.give.Goals as goal

pub returns-in-Ok : goal.returns-in-Ok
returns-in-Ok c =
    sent c.in-Ok.outgoing c.in-Ok.ensures.taken c.in-Ok.ensures.idle c.in-Ok.ensures.message c.in-Ok.ensures.sent refl c.order_card.ensures c.write_message.ensures.written
    (ap (λ (step : ZvtStep). record { taken = step.taken; send = c.write_message.result; place = step.place; line = step.line; reason = step.reason; message = step.message; printed = step.printed; outcome = step.outcome }) c.no_step.ensures) refl

pub returns-in-Err : goal.returns-in-Err
returns-in-Err c =
    refused c.in-Err.why c.in-Err.ensures.refused (ap (λ (till : SettlingTill). record { till = till; stream = c.args.end.now.stream; card = c.args.end.now.card }) c.in-Err.ensures.unchanged) refl
    c.no_step-in-Err.ensures c.refusal_status.ensures
