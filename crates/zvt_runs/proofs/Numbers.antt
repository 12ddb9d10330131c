-- Decimal digits.
use Rattle.std.proofs.Common.{◌≡◌, ℕ, ◌-◌, ◌^◌, ◌<◌, ◌≤◌, true, false, cond, nat_eq, suc, zero, Option, Some, None, IsSome, IfSome, ◌↔◌, List, [], ◌∷◌, length, take, drop, get_or, refl, arith}
use Rattle.std.proofs.lemmas.Bool.Decides.{nat_tests}
use Rattle.zvt_runs.specs.Words.{amount_of, code_of, declined, declined_by, declining, not_zero}

-- ---- amounts

pub amount_is : (r : Option ℕ) (n : ℕ) → IsSome r ↔ ((1 ≤ n) × (n ≤ 999999999999)) → IfSome r (λ amount. amount ≡ n) → n < 10 ^ 12 → r ≡ not_zero n
amount_is (Some amount) n given value most = let least = (given.0 refl).0 in rw value (grind (arith, nat_tests))
amount_is None zero given value most = refl
amount_is None (suc n) given value most = let some : false ≡ true = given.1 (omega arith, omega (arith, most)) in absurd (cc)

-- ---- payments to be declined

pub too_short : (words : List ℕ) → length words < 3 → declined words ≡ None
too_short [] h = refl
too_short (a ∷ []) h = refl
too_short (a ∷ b ∷ []) h = refl
too_short (a ∷ b ∷ c ∷ words) h = absurd (omega arith)

pub of_three : (digits trailing : List ℕ) → length trailing ≡ 3
    → declined_by digits trailing ≡ cond (nat_eq (get_or trailing 0 0) 58) (declining (amount_of digits) (code_of (get_or trailing 1 0) (get_or trailing 2 0))) None
of_three digits [] h = absurd (cc)
of_three digits (a ∷ []) h = absurd (omega arith)
of_three digits (a ∷ b ∷ []) h = absurd (omega arith)
of_three digits (a ∷ b ∷ c ∷ []) h = refl
of_three digits (a ∷ b ∷ c ∷ d ∷ more) h = absurd (omega arith)

pub declined_three : (words : List ℕ) (prefix : ℕ) (digits trailing : List ℕ) → prefix ≡ length words - 3 → 3 ≤ length words → digits ≡ take prefix words → trailing ≡ drop prefix words → length trailing ≡ 3
    → declined words ≡ cond (nat_eq (get_or trailing 0 0) 58) (declining (amount_of digits) (code_of (get_or trailing 1 0) (get_or trailing 2 0))) None
declined_three words prefix digits trailing f long is_digits is_after three =
    rw (← f, ← is_digits, ← is_after) (of_three digits trailing three)
