use Rattle.std.proofs.Common.{refl}
use Rattle.zvt_report.specs.FindingObjects.{last_members}
use Rattle.zvt_report.proofs.LookObjectLemmas.{more_same}
use Rattle.zvt_report.proofs.finding_objects.last_members.Goals as goal

pub returns : goal.returns
returns c =
    more_same c.more.result c.args.text.now c.more.new.text _ (last_members c.args.finding.now)
    (rw (c.maybe_trace.ensures, c.trace_of.ensures, c.weight_member.ensures) refl)
    c.more.ensures
