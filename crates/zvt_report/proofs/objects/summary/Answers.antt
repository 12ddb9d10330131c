use Rattle.std.proofs.Common.{◌≡◌, ◌∙◌, ap, arith, length, List, ℕ, refl}
use Rattle.std.proofs.lemmas.Grind.{common_steps}
use Rattle.zvt_till.specs.Marks.{total}
use Rattle.zvt_till.specs.declared.entries.Entry.{Entry}
use Rattle.zvt_till.specs.declared.outcomes.Cause.{Cause}
use Rattle.zvt_report.specs.Laws.{booked_total}
use Rattle.zvt_report.specs.Objects.{count, others_from, summary_members}
use Rattle.zvt_report.specs.Sums.{reversed_count, unclear_reversals, unclear_total}
use Rattle.zvt_report.specs.declared.members.Name.TheVariants as name
use Rattle.zvt_report.specs.declared.members.Object.TheVariants as object_of
use Rattle.zvt_report.proofs.MemberLemmas.{members_same}
use Rattle.zvt_report.proofs.objects.summary.Goals as goal

pub returns : goal.returns
returns c =
    let books = c.args.books.now in
    let book : c.as_slice-book.result.now ≡ books.book = grind (arith, common_steps) in
    let unclear : c.as_slice-unclear.result.now ≡ books.unclear = grind (arith, common_steps) in
    let orders : c.as_slice.result.now ≡ books.orders = grind (arith, common_steps) in
    let booked : c.count-2.result ≡ count name.Booked (length books.book) = c.count-2.ensures ∙ ap (λ (l : List Entry). count name.Booked (length l)) book in
    let net : c.said_as-2.result ≡ count name.Net (total books.book) = c.said_as-2.ensures ∙ ap (count name.Net) (c.net_total.ensures ∙ ap total book) in
    let others : c.count-4.result ≡ count name.Others (others_from c.args.messages.now 0 books.orders) =
    c.count-4.ensures ∙ ap (count name.Others) (c.others.ensures ∙ ap (others_from c.args.messages.now 0) orders) in
    let left : c.count-5.result ≡ count name.ReversalsUnclear (unclear_reversals books.book) = c.count-5.ensures ∙ ap (count name.ReversalsUnclear) (c.unclear_reversals.ensures ∙ ap unclear_reversals book) in
    let reversed : c.count-6.result ≡ count name.Reversed (reversed_count books.book) = c.count-6.ensures ∙ ap (count name.Reversed) (c.reversed_count.ensures ∙ ap reversed_count book) in
    let all : c.said_as-3.result ≡ count name.Total (booked_total books.book) = c.said_as-3.ensures ∙ ap (count name.Total) (c.booked_total.ensures ∙ ap booked_total book) in
    let unknown : c.count-7.result ≡ count name.Unclear (length books.unclear) = c.count-7.ensures ∙ ap (λ (l : List (ℕ × Cause)). count name.Unclear (length l)) unclear in
    let amount : c.said_as-4.result ≡ count name.UnclearAmount (unclear_total books.unclear) = c.said_as-4.ensures ∙ ap (count name.UnclearAmount) (c.unclear_total.ensures ∙ ap unclear_total unclear) in
    members_same c.write_object.result c.args.text.now c.write_object.new.text object_of.Summary _ (summary_members c.args.tally c.args.currency c.args.terminal c.args.times.now books c.args.messages.now c.args.looks.now c.args.findings.now)
    (rw (c.count.ensures, booked, c.maybe_currency.ensures, c.said_as.ensures, c.count-3.ensures, net, others, left, reversed, c.maybe_terminal.ensures, c.from_member.ensures, c.to_member.ensures, c.back_member.ensures, c.bad_member.ensures, all, unknown, amount) refl) c.write_object.ensures
