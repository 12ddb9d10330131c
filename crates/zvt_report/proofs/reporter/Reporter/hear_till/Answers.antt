use Rattle.std.proofs.Common.{◌≡◌, rules, ap, refl, ◌∙◌}
use Rattle.std.specs.Prelude.{is_some}
use Rattle.zvt_trace.specs.TraceEvent as trace_event
use Rattle.zvt_trace.specs.declared.direction.Direction.TheVariants.{FromTill}
use Rattle.zvt_audit.specs.Currencies.{named_after, named_by}
use Rattle.zvt_audit.proofs.EndLemmas.{where_ok}
use Rattle.zvt_report.proofs.StatementLemmas.{till_states}
use Rattle.zvt_report.proofs.reporter.Reporter.hear_till.Goals as goal

pub returns : goal.returns
returns c =
    let named : c.notice.new.self ≡ named_after c.args.self.now.named (named_by (trace_event.message FromTill c.args.apdu.now)) = search rules in
    let states =
    till_states c.is_some.result c.args.self.now.hearing c.take_order.new.self c.args.line c.args.apdu.now (c.is_some.ensures ∙ ap is_some c.beginning.ensures) c.in_ok-take_order.ensures in
    where_ok c.judge.result (λ judged. (judged, named, c.in_ok-add_message.ensures, states, refl)) c.judge.ensures
