-- What the terminal says of its rows is true of its ledger.
use Rattle.std.proofs.Common.{◌≡◌, ℕ, ◌≤◌, Bool, true, false, cond, ◌&&◌, ◌==◌, List, [], ◌∷◌, ◌++◌, length, Option, Some, None, refl, sym, ap, subst, ◌∙◌, eqb-true, arith}
use Rattle.zvt_apdu.specs.Briefs.{digits}
use Rattle.zvt_bcd.specs.Digits.{is_digit_pair, number_of}
use Rattle.std.specs.List.{list_all}
use Rattle.zvt_till.specs.declared.outcomes.Cause.TheVariants.{AmountDiffers, NoTrace, WrongCurrency}
use Rattle.zvt_till.specs.declared.statuses.Class.TheVariants.{Good, Declining, Doubtful}
use Rattle.zvt_till.specs.Statuses.{is_in_currency, spells}
use Rattle.zvt_term.specs.declared.ledger.Row.{Row}
use Rattle.zvt_term.specs.World.{IsApproved, IsTakenBack}
use Rattle.zvt_term.proofs.DigitLemmas.{number_of-digits}
use Rattle.zvt_term.proofs.Facts.{fact_of, approval_status, code_status, reversal_status}
use Rattle.zvt_term.proofs.Matching.{slice_get-last, ToldStatus}

and-right : (a b : Bool) → (a && b) ≡ true → b ≡ true
and-right true b e = e
and-right false b e = absurd cc

-- home: the currency of the till
module _ (home : ℕ) where
  pub approval-told : (l : List Row) (amount n : ℕ) → (ToldStatus home) (l ++ record { number = n; amount = amount; currency = Some home; reverses = None } ∷ []) (approval_status amount n (Some home))
  approval-told l amount n =
      record {
        pays = λ force a t e. paid a t (is_in_currency force (fact_of (Some home))) (amount == a) refl e;
        takes = λ force a t u e. absurd (not_taken (is_in_currency force (fact_of (Some home))) (amount == a) u e);
      }
    where
      paid : (a t : ℕ) (own b : Bool) → (amount == a) ≡ b → cond own (cond b (Good (Some n)) (Doubtful AmountDiffers)) (Doubtful WrongCurrency) ≡ Good (Some t)
          → IsApproved (l ++ record { number = n; amount = amount; currency = Some home; reverses = None } ∷ []) home a t × Some (digits 2 n) ≡ Some (digits 2 t)
      paid a t true true q e =
          let same : amount ≡ a = eqb-true amount a q in
          let number : n ≡ t = cc in
          let row : Row = record { number = n; amount = amount; currency = Some home; reverses = None } in
          let last : IsApproved (l ++ row ∷ []) home amount n = (length l, slice_get-last l row) in (
            subst (λ x. IsApproved (l ++ row ∷ []) home a x) number (subst (λ x. IsApproved (l ++ row ∷ []) home x n) same last),
            ap (λ x. Some (digits 2 x)) number,
          )
      paid a t true false q e = absurd cc
      paid a t false b q e = absurd cc

      not_taken : (own b : Bool) (u : Option ℕ) → cond own (cond b (Doubtful NoTrace) (Doubtful AmountDiffers)) (Doubtful WrongCurrency) ≡ Good u → ⊥
      not_taken true true u e = cc
      not_taken true false u e = cc
      not_taken false b u e = cc

  pub code-told : (l : List Row) (code : ℕ) → (ToldStatus home) l (code_status code)
  code-told l code = record { pays = λ force a t e. absurd (no_class (code == 0) (Some t) e); takes = λ force a t u e. absurd (no_class (code == 0) u e) }
    where
      no_class : (b : Bool) (t : Option ℕ) → cond b (Doubtful AmountDiffers) (Declining code) ≡ Good t → ⊥
      no_class true t e = cc
      no_class false t e = cc

  pub reversal-told : (l : List Row) (amount n original : ℕ) (kept : Option ℕ) → original ≤ 9999
      → (ToldStatus home) (l ++ record { number = n; amount = amount; currency = kept; reverses = Some original } ∷ []) (reversal_status amount n original kept)
  reversal-told l amount n original kept few =
      record { pays = λ force a t e. absurd cc; takes = λ force a t u e. taken t u (is_in_currency force (fact_of kept)) (amount == a) (spells (digits 3 original) t) refl e }
    where
      taken : (t : ℕ) (u : Option ℕ) (own b c : Bool) → spells (digits 3 original) t ≡ c
          → cond own (cond b (cond c (Good None) (Doubtful NoTrace)) (Doubtful AmountDiffers)) (Doubtful WrongCurrency) ≡ Good u
          → IsTakenBack (l ++ record { number = n; amount = amount; currency = kept; reverses = Some original } ∷ []) t
      taken t u false b c q e = absurd cc
      taken t u true false c q e = absurd cc
      taken t u true true false q e = absurd cc
      taken t u true true true q e =
          let test : (number_of (digits 3 original) == t) ≡ true = and-right (list_all is_digit_pair (digits 3 original)) (number_of (digits 3 original) == t) q in
          let same : original ≡ t = sym (number_of-digits 3 original (omega arith)) ∙ eqb-true (number_of (digits 3 original)) t test in
          let row : Row = record { number = n; amount = amount; currency = kept; reverses = Some original } in
          (length l, row, slice_get-last l row, ap (λ x. Some x) same)
