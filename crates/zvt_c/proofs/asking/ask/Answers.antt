use Rattle.std.proofs.Common.{refl, ap}
use Rattle.zvt_settle.specs.Settling.{Both}
use Rattle.zvt_c.specs.declared.numbers.ZvtStep.{ZvtStep}
use Rattle.zvt_c.specs.Asking.{asked, refused}
use Rattle.zvt_c.proofs.asking.ask.Goals as goal

pub returns-in-Ok : goal.returns-in-Ok
returns-in-Ok c =
    asked c.in-Ok.bytes (record { taken = c.in-Ok.ensures.taken; runs = ap (λ (b : Both). b.settling) c.in-Ok.ensures.asked; inside = c.in-Ok.ensures.inside; message = c.in-Ok.ensures.bytes }) refl refl c.put.ensures
    (ap (λ (step : ZvtStep). record { taken = step.taken; send = c.put.result; place = step.place; line = step.line; reason = step.reason; message = step.message; printed = step.printed; outcome = step.outcome }) c.no_step.ensures) refl

pub returns-in-Err : goal.returns-in-Err
returns-in-Err c =
    refused c.in-Err.why c.in-Err.ensures.refused (record { inside = c.in-Err.ensures.inside; settling = ap (λ (b : Both). b.settling) c.in-Err.ensures.unchanged }) refl refl refl c.no_step-in-Err.ensures
    c.refusal_status.ensures
