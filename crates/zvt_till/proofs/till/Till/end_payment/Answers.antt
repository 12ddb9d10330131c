use Rattle.std.proofs.Common.{◌≡◌, ◌++◌, ◌∷◌, [], List, rules, arith, sym, subst, length, false}
use Rattle.std.proofs.lemmas.Grind.{common_steps}
use Rattle.zvt_till.specs.declared.entries.Doubt.TheVariants.{No}
use Rattle.zvt_till.specs.declared.entries.Entry.{Entry}
use Rattle.zvt_till.specs.Outcomes.{trace_used}
use Rattle.zvt_till.specs.Restoring.{OnceBelow}
use Rattle.zvt_till.specs.View.{TillValue}
use Rattle.zvt_till.proofs.DistinctLemmas.{once-pushed}
use Rattle.zvt_till.proofs.till.Till.end_payment.Goals as goal

pub invariant_of-self : goal.invariant_of-self
invariant_of-self c =
    let book = c.self.inside.book.items in
    let row : Entry = record { amount = c.args.amount; trace = c.in-Paid.trace; receipt = c.in-Paid.receipt; reversed = false; doubt = No } in
    let unused : trace_used c.in-Paid.trace book ≡ false =
    subst (λ (t : TillValue). trace_used c.in-Paid.trace t.state.book ≡ false) (sym c.self.view_is) (rw c.in-Paid.is at c.requires.books) in
    let pushed : c.push_reserved.new.self.items ≡ book ++ row ∷ [] = search rules in
    let once = subst (λ (b : List Entry). OnceBelow (length b) b) (sym pushed) (once-pushed book row unused c.self.invariant.4) in
    (grind (arith, common_steps), grind (arith, common_steps), c.self.invariant.2, grind (arith, common_steps), once, c.self.invariant.5)
