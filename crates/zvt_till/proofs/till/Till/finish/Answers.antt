use Rattle.std.proofs.Common.{◌≡◌, ◌<◌, rules, arith, sym, ap, ◌∙◌, length}
use Rattle.std.proofs.lemmas.Grind.{common_steps}
use Rattle.zvt_till.specs.Books.{Booked}
use Rattle.zvt_till.proofs.UsedTraceLemmas.{used-changed, read_is}
use Rattle.zvt_till.proofs.DistinctLemmas.{once-changed}
use Rattle.zvt_till.proofs.BookStepLemmas.{same-row}
use Rattle.zvt_till.proofs.till.Till.finish.Goals as goal

pub invariant_of-self-in-Reverse : goal.invariant_of-self-in-Reverse
invariant_of-self-in-Reverse c =
    let book = c.self.inside.book.items in
    let i = c.in-Reverse.entry in
    let row = c.index_mut.result.now in
    let changed = c.end_reversal.new.self in
    let within : i < length book = grind (arith, common_steps) in
    let is = c.index_mut.ensures.value in
    let same : changed.trace ≡ row.trace = ap (λ e. e.trace) c.end_reversal.ensures ∙ ap (λ (b : Booked). b.trace) (same-row row c.args.outcome.now) in
    (λ number. c.self.invariant.0 number ∙ sym (used-changed number book i row changed within is same), grind (arith, common_steps, c.self.invariant.1), c.self.invariant.2, grind (arith, common_steps), once-changed book i row changed within is same c.self.invariant.4, c.self.invariant.5)

pub returns-in-Reverse-clause-state : goal.returns-in-Reverse-clause-state
returns-in-Reverse-clause-state c =
    let book = c.self.inside.book.items in
    let within : c.in-Reverse.entry < length book = grind (arith, common_steps) in
    let read = read_is book c.in-Reverse.entry c.index_mut.result.now within c.index_mut.ensures.value in
    rw (c.in-Reverse.is, ← c.self.view_is, read) (search rules)

pub end_payment-requires-clause-ended : goal.end_payment-requires-clause-ended
end_payment-requires-clause-ended c = search rules

pub returns-in-Pay-clause-state : goal.returns-in-Pay-clause-state
returns-in-Pay-clause-state c = search rules

pub returns-in_default-order : goal.returns-in_default-order
returns-in_default-order c = search rules
