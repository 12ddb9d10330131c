-- How many entries of a book have an unclear reversal.
use Rattle.std.proofs.Common.{◌≡◌, ℕ, suc, ◌+◌, cond, List, [], ◌∷◌, ◌++◌, length, refl, sym, ap, ◌∙◌, zero-add, add-zero, arith}
use Rattle.std.specs.List.{count_by}
use Rattle.std.proofs.lemmas.List.Sums.{sum_by-cons}
use Rattle.zvt_till.specs.declared.entries.Doubt.{Doubt}
use Rattle.zvt_till.specs.declared.entries.Doubt.TheVariants.{No, Unclear, TakenBack}
use Rattle.zvt_till.specs.declared.entries.Entry.{Entry}
use Rattle.zvt_till.specs.declared.outcomes.Cause.{Cause}
use Rattle.zvt_till.specs.Doubts.{is_unclear, unclear_reversals_from}

-- one entry before the others, by its doubt
one : (place n : ℕ) (d : Doubt) (entry : Entry) (book : List Entry) → entry.doubt ≡ d → length (unclear_reversals_from (place + 1) book) ≡ n
    → length (unclear_reversals_from place (entry ∷ book)) ≡ cond (is_unclear entry) 1 0 + n
one place n No entry book is more = rw is (more ∙ sym (zero-add n))
one place n (Unclear cause) entry book is more = rw is (ap suc more ∙ omega arith)
one place n TakenBack entry book is more = rw is (more ∙ sym (zero-add n))

pub count-from : (place : ℕ) (book : List Entry) → length (unclear_reversals_from place book) ≡ count_by is_unclear book
count-from place [] = refl
count-from place (entry ∷ book) =
    one place (count_by is_unclear book) entry.doubt entry book refl (count-from (place + 1) book) ∙ sym (sum_by-cons (λ x. cond (is_unclear x) 1 0) entry book)

-- entries after others

by-doubt : (place : ℕ) (more all last : List (ℕ × Cause)) (d : Doubt) → all ≡ more ++ last
    → elim d [ No ↦ all | Unclear cause ↦ (place, cause) ∷ all | TakenBack ↦ all ] ≡ elim d [ No ↦ more | Unclear cause ↦ (place, cause) ∷ more | TakenBack ↦ more ] ++ last
by-doubt place more all last No e = e
by-doubt place more all last (Unclear cause) e = ap (λ rows. (place, cause) ∷ rows) e
by-doubt place more all last TakenBack e = e

pub unclear-append : (place : ℕ) (book more : List Entry) → unclear_reversals_from place (book ++ more) ≡ unclear_reversals_from place book ++ unclear_reversals_from (place + length book) more
unclear-append place [] more = ap (λ n. unclear_reversals_from n more) (sym (add-zero place))
unclear-append place (first ∷ book) more =
    let here : (place + 1) + length book ≡ place + length (first ∷ book) = omega arith in
    by-doubt place (unclear_reversals_from (place + 1) book) (unclear_reversals_from (place + 1) (book ++ more)) (unclear_reversals_from (place + length (first ∷ book)) more) first.doubt
    (unclear-append (place + 1) book more ∙ ap (λ n. unclear_reversals_from (place + 1) book ++ unclear_reversals_from n more) here)
