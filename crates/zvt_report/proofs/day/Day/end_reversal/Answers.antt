use Rattle.std.proofs.Common.{◌≡◌, ◌<◌, length, rules, arith, sym, ap, ◌∙◌}
use Rattle.std.proofs.lemmas.Grind.{common_steps}
use Rattle.zvt_till.specs.Books.{Booked}
use Rattle.zvt_till.proofs.UsedTraceLemmas.{used-changed, read_is}
use Rattle.zvt_till.proofs.BookStepLemmas.{same-row}
use Rattle.zvt_report.proofs.day.Day.end_reversal.Goals as goal

pub invariant_of-self : goal.invariant_of-self
invariant_of-self c =
    let book = c.self.inside.book.items in
    let row = c.index_mut.result.now in
    let changed = c.end_reversal.new.self in
    let within : c.args.place < length book = grind (arith, common_steps) in
    let is = c.index_mut.ensures.value in
    let same : changed.trace ≡ row.trace = ap (λ e. e.trace) c.end_reversal.ensures ∙ ap (λ (b : Booked). b.trace) (same-row row c.args.outcome.now) in
    λ number. c.self.invariant number ∙ sym (used-changed number book c.args.place row changed within is same)

pub returns-then-place-len : goal.returns-then-place-len
returns-then-place-len c =
    let book = c.self.inside.book.items in
    let within : c.args.place < length book = grind (arith, common_steps) in
    let read = read_is book c.args.place c.index_mut.result.now within c.index_mut.ensures.value in
    rw (← c.self.view_is, read) (search rules)
