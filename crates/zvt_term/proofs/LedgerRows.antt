-- Rows of a ledger: the last one, and the one that a receipt number names. For the proof that settlements agree with the ledger.
use Rattle.std.proofs.Common.{◌≡◌, ℕ, zero, suc, ◌+◌, ◌-◌, ◌≤◌, ◌⊎◌, inl, inr, Bool, true, false, cond, ◌==◌, List, [], ◌∷◌, ◌++◌, length, Some, slice_get, refl, sym, ap, subst, ◌∙◌, arith, eqb-true, length-append}
use Rattle.std.specs.List.{find, list_all}
use Rattle.std.proofs.lemmas.Option.{slice_get_within}
use Rattle.zvt_bcd.specs.Digits.{is_digit_pair, number_of}
use Rattle.zvt_apdu.specs.Briefs.{digits}
use Rattle.zvt_till.specs.Books.{Booked}
use Rattle.zvt_till.specs.Statuses.{spells}
use Rattle.zvt_term.specs.declared.ledger.Row.{Row}
use Rattle.zvt_term.specs.Extended.{last_row}
use Rattle.zvt_term.specs.Ledger.{NumberedFrom, is_approval, is_approval_named, approval_by}
use Rattle.zvt_term.proofs.Accounting.{and-right}
use Rattle.zvt_term.proofs.DigitLemmas.{number_of-digits}
use Rattle.zvt_term.proofs.Matching.{slice_get-last}
use Rattle.zvt_term.specs.AskedWorld.{payment_row}
use Rattle.zvt_term.proofs.Standing.{AllIn}

pub split-last : {X : Type 0} (xs : List X) → (xs ≡ []) ⊎ ((ys : List X) × (y : X) × (xs ≡ ys ++ y ∷ []))
split-last {X = X} [] = inl refl
split-last {X = X} (x ∷ xs) = by_rest (split-last xs)
  where
    by_rest : (xs ≡ []) ⊎ ((ys : List X) × (y : X) × (xs ≡ ys ++ y ∷ [])) → (x ∷ xs ≡ []) ⊎ ((ys : List X) × (y : X) × (x ∷ xs ≡ ys ++ y ∷ []))
    by_rest (inl e) = inr ([], x, ap (λ zs. x ∷ zs) e)
    by_rest (inr w) = inr (x ∷ w.0, w.1, ap (λ zs. x ∷ zs) w.2)

pub last-split : (l : List Row) (row : Row) → last_row l ≡ Some row → (rows : List Row) × (l ≡ rows ++ row ∷ [])
last-split l row e = by_split (split-last l)
  where
    by_split : (l ≡ []) ⊎ ((ys : List Row) × (y : Row) × (l ≡ ys ++ y ∷ [])) → (rows : List Row) × (l ≡ rows ++ row ∷ [])
    by_split (inl none) = let gone : last_row [] ≡ Some row = ap last_row (sym none) ∙ e in absurd cc
    by_split (inr w) =
        let size : length (w.0 ++ w.1 ∷ []) - 1 ≡ length w.0 = omega (arith, length-append w.0 (w.1 ∷ [])) in
        let here : Some w.1 ≡ Some row = sym (ap (slice_get (w.0 ++ w.1 ∷ [])) size ∙ slice_get-last w.0 w.1) ∙ ap last_row (sym w.2) ∙ e in
        let same : w.1 ≡ row = cc in (w.0, w.2 ∙ ap (λ (r : Row). w.0 ++ r ∷ []) same)

pub numbered-at : (n : ℕ) (l : List Row) (k : ℕ) (row : Row) → NumberedFrom n l → slice_get l k ≡ Some row → row.number ≡ n + k
numbered-at n [] k row h e = absurd cc
numbered-at n (x ∷ l) zero row h e = let same : x ≡ row = cc in let number = h.0 in let q : x.number ≡ row.number = ap (λ (r : Row). r.number) same in omega arith
numbered-at n (x ∷ l) (suc k) row h e = let q = numbered-at (n + 1) l k row h.1 e in omega arith

find-some : (test : Row → Bool) (l : List Row) (row : Row) → find test l ≡ Some row → (k : ℕ) × (slice_get l k ≡ Some row) × (test row ≡ true)
find-some test [] row e = absurd cc
find-some test (x ∷ l) row e = by_test (test x) refl (find-some test l row) e
  where
    by_test : (b : Bool) → test x ≡ b → (find test l ≡ Some row → (k : ℕ) × (slice_get l k ≡ Some row) × (test row ≡ true)) → cond b (Some x) (find test l) ≡ Some row
        → (k : ℕ) × (slice_get (x ∷ l) k ≡ Some row) × (test row ≡ true)
    by_test true is later q = let same : x ≡ row = cc in (0, q, subst (λ (r : Row). test r ≡ true) same is)
    by_test false is later q = let w = later q in (suc w.0, w.1, w.2)

-- the receipt number of an entry names the approval of the entry alone
abbrev pub IsNamed : List Row → List Booked → Type 0
IsNamed l rows = (e : ℕ) (b : Booked) → slice_get rows e ≡ Some b → (row : Row) → approval_by (digits 2 b.trace) l ≡ Some row → (row.number ≡ b.trace) × (row.amount ≡ b.amount)

-- an entry has the number of a row
pub in-ledger : (own : ℕ) (l : List Row) (rows : List Booked) (i : ℕ) (b : Booked) → NumberedFrom 1 l → AllIn own l rows → slice_get rows i ≡ Some b → b.trace ≤ length l
in-ledger own l rows i b numbered all found =
    let w = all i b found in
    let number = numbered-at 1 l w.0 (payment_row b.trace b.amount own) numbered w.1 in
    let within = slice_get_within l w.0 (payment_row b.trace b.amount own) w.1 in omega arith

pub all-named : (own : ℕ) (l : List Row) (rows : List Booked) → NumberedFrom 1 l → length l ≤ 9999 → AllIn own l rows → IsNamed l rows
all-named own l rows numbered few all e b found row named =
    let w = all e b found in
    let at = find-some (is_approval_named (digits 2 b.trace)) l row named in
    let short = in-ledger own l rows e b numbered all found in
    let spelled : spells (digits 2 b.trace) row.number ≡ true = and-right (is_approval row) (spells (digits 2 b.trace) row.number) at.2 in
    let read : number_of (digits 2 b.trace) ≡ row.number = eqb-true (number_of (digits 2 b.trace)) row.number (and-right (list_all is_digit_pair (digits 2 b.trace)) (number_of (digits 2 b.trace) == row.number) spelled) in
    let number : row.number ≡ b.trace = sym read ∙ number_of-digits 2 b.trace (omega arith) in
    let here = numbered-at 1 l at.0 row numbered at.1 in
    let there : b.trace ≡ 1 + w.0 = numbered-at 1 l w.0 (payment_row b.trace b.amount own) numbered w.1 in
    let place : at.0 ≡ w.0 = omega arith in
    let same : Some row ≡ Some (payment_row b.trace b.amount own) = sym at.1 ∙ ap (slice_get l) place ∙ w.1 in
    let rows_same : row ≡ payment_row b.trace b.amount own = cc in
    (number, ap (λ (r : Row). r.amount) rows_same)
