use Rattle.std.proofs.Common.{◌≡◌, ap, ◌∙◌}
use Rattle.zvt_till.specs.Events.{run_settings}
use Rattle.zvt_till.specs.Sending.{Settings}
use Rattle.zvt_till.specs.Till.{facts_of}
use Rattle.zvt_till.proofs.Runs.{tied-settings, tied-order, log-order, log-refused, refused-plainly}
use Rattle.zvt_till.proofs.events.Run.order.Goals as goal

pub returns-in_ok-send-in-Ok-clause-tied : goal.returns-in_ok-send-in-Ok-clause-tied
returns-in_ok-send-in-Ok-clause-tied c =
    let own : c.currency.result ≡ run_settings.currency = c.currency.ensures ∙ ap (λ (k : Settings). k.currency) (tied-settings _ _ _ c.requires) in
    rw (c.in_ok-add-in-Ok.ensures, c.in-Ok.ensures.runs, c.sent_as-as_sent.ensures, own)
    (tied-order _ _ _ _ _ _ c.requires c.in-Ok.ensures.taken c.in-Ok.ensures.sent c.in_ok-send-in-Ok.ensures)

pub returns-in_ok-send-in-Ok-clause-log : goal.returns-in_ok-send-in-Ok-clause-log
returns-in_ok-send-in-Ok-clause-log c =
    let own : c.currency.result ≡ run_settings.currency = c.currency.ensures ∙ ap (λ (k : Settings). k.currency) (tied-settings _ _ _ c.requires) in
    rw (c.in_ok-add-in-Ok.ensures, c.sent_as-as_sent.ensures, own) (log-order _ _ _ _ c.requires c.in-Ok.ensures.taken)

pub returns-in_default : goal.returns-in_default
returns-in_default c =
    let e = refused-plainly (facts_of c.args.self.now.till.state) c.args.self.now.till.spare c.args.order c.in-Err.why c.in-Err.ensures.refused c.in_default.not-Memory in
    record { tied = rw c.in-Err.ensures.unchanged c.requires; log = log-refused _ _ _ _ _ c.requires e }
