use Rattle.std.proofs.Common.{refl}
use Rattle.zvt_report.specs.FindingObjects.{finding_members}
use Rattle.zvt_report.proofs.LookObjectLemmas.{more_same}
use Rattle.zvt_report.proofs.finding_objects.middle.Goals as goal

pub returns : goal.returns
returns c =
    more_same c.more.result c.args.text.now c.more.new.text _ (finding_members c.args.finding.now)
    (rw (c.maybe_amount.ensures, c.amount_of.ensures, c.said_as.ensures, c.control_member.ensures, c.head.ensures, c.line_member.ensures, c.line.ensures) refl)
    c.more.ensures
