use Rattle.std.proofs.Common.{◌≡◌, ◌∙◌, ap, arith, List, refl}
use Rattle.std.proofs.lemmas.Grind.{common_steps}
use Rattle.zvt_till.specs.declared.entries.Entry.{Entry}
use Rattle.zvt_report.specs.Objects.{approved_of, cause_of, count, maybe_cause, maybe_count, maybe_receipt, payment_members, receipt_by, reversed_at, taken_back_at, trace_by, true_if, unclear_at}
use Rattle.zvt_report.specs.declared.members.Name.TheVariants as name
use Rattle.zvt_report.specs.declared.members.Object.TheVariants as object_of
use Rattle.zvt_report.proofs.MemberLemmas.{members_same}
use Rattle.zvt_report.proofs.order_objects.payment.Goals as goal

pub returns : goal.returns
returns c =
    let books = c.args.books.now in
    let row = c.args.row.now in
    let entry = c.args.place.now.entry in
    let book : c.as_slice-book.result.now ≡ books.book = grind (arith, common_steps) in
    let orders : c.as_slice.result.now ≡ books.orders = grind (arith, common_steps) in
    let amount : c.count.result ≡ count name.Amount c.args.amount = c.count.ensures ∙ ap (count name.Amount) c.get.ensures.value in
    let approved : c.maybe_amount.result ≡ maybe_count name.Approved (approved_of row) = c.maybe_amount.ensures ∙ ap (maybe_count name.Approved) c.approved_of.ensures in
    let cause : c.maybe_cause.result ≡ maybe_cause name.Cause (cause_of row.outcome) = c.maybe_cause.ensures ∙ ap (maybe_cause name.Cause) c.cause_of.ensures in
    let receipt : c.maybe_receipt.result ≡ maybe_receipt (receipt_by row.outcome row.approval) = c.maybe_receipt.ensures ∙ ap maybe_receipt c.receipt_by.ensures in
    let doubt : c.maybe_cause-2.result ≡ maybe_cause name.ReversalUnclear (unclear_at books.book entry) =
    c.maybe_cause-2.ensures ∙ ap (maybe_cause name.ReversalUnclear) (c.unclear_at.ensures ∙ ap (λ (l : List Entry). unclear_at l entry) book) in
    let reversed : c.maybe_count-2.result ≡ maybe_count name.ReversedBy (reversed_at entry books.orders) =
    c.maybe_count-2.ensures ∙ ap (maybe_count name.ReversedBy) (c.reversed_at.ensures ∙ ap (reversed_at entry) orders) in
    let taken : c.true_if.result ≡ true_if name.TakenBack (taken_back_at books.book entry) =
    c.true_if.ensures ∙ ap (true_if name.TakenBack) (c.taken_back_at.ensures ∙ ap (λ (l : List Entry). taken_back_at l entry) book) in
    let trace : c.maybe_trace.result ≡ maybe_count name.Trace (trace_by row.outcome row.approval) = c.maybe_trace.ensures ∙ ap (maybe_count name.Trace) c.trace_by.ensures in
    members_same c.write_object.result c.args.text.now c.write_object.new.text object_of.Payment _ (payment_members books c.args.place.now row c.args.amount)
    (rw (amount, approved, c.maybe_card.ensures, c.maybe_card_number.ensures, cause, c.code.ensures, c.lines.ensures, c.count-2.ensures, c.ending.ensures, c.maybe_count.ensures, receipt, doubt, reversed, taken, c.maybe_time.ensures, trace, c.words.ensures) refl)
    c.write_object.ensures
