use Rattle.std.proofs.Common.{◌≡◌, ◌∙◌, ap, refl}
use Rattle.zvt_report.specs.Objects.{cause_of, close_members, maybe_cause}
use Rattle.zvt_report.specs.declared.members.Name.TheVariants as name
use Rattle.zvt_report.specs.declared.members.Object.TheVariants as object_of
use Rattle.zvt_report.proofs.MemberLemmas.{members_same}
use Rattle.zvt_report.proofs.close_object.close.Goals as goal

pub returns : goal.returns
returns c =
    let row = c.args.row.now in
    let cause : c.maybe_cause.result ≡ maybe_cause name.Cause (cause_of row.outcome) = c.maybe_cause.ensures ∙ ap (maybe_cause name.Cause) c.cause_of.ensures in
    members_same c.write_object.result c.args.text.now c.write_object.new.text object_of.Close _ (close_members c.args.closing.now c.args.place.now row)
    (rw (
      c.book_member.ensures,
      cause,
      c.code.ensures,
      c.differs_member.ensures,
      c.explained_member.ensures,
      c.groups_member.ensures,
      c.lines.ensures,
      c.count.ensures,
      c.ending.ensures,
      c.receipts_member.ensures,
      c.stated_member.ensures,
      c.maybe_time.ensures,
      c.words.ensures,
    ) refl)
    c.write_object.ensures
