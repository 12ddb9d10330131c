use Rattle.std.proofs.Common.{refl}
use Rattle.zvt_report.specs.LookObjects.{look_members}
use Rattle.zvt_report.proofs.LookObjectLemmas.{more_same}
use Rattle.zvt_report.proofs.look_objects.middle.Goals as goal

pub returns : goal.returns
returns c =
    more_same c.more.result c.args.text.now c.more.new.text _ (look_members c.args.rows.now c.args.look.now c.args.row.now)
    (rw (c.order_member.ensures, c.said_as.ensures, c.maybe_cause.ensures, c.cause_of.ensures, c.order_member-2.ensures, c.lines.ensures, c.count.ensures, c.maybe_count.ensures, c.payment_at.ensures) refl)
    c.more.ensures
