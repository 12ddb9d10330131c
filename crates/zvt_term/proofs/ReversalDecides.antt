-- What the simulated terminal's answer decides about a reversal.
use Rattle.std.proofs.Common.{arith, ◌≡◌, ℕ, ◌≤◌, ◌<◌, ◌==◌, Bool, true, false, cond, ◌&&◌, nat_eq, [], ◌∷◌, Some, None, refl, ap, ◌∙◌}
use Rattle.std.specs.Bool.{Decides}
use Rattle.std.specs.List.{list_all}
use Rattle.std.proofs.lemmas.Bool.Decides.{Decides-eqb, Decides-by_and, nat_tests}
use Rattle.zvt_apdu.specs.Briefs.{digits}
use Rattle.zvt_bcd.specs.Digits.{is_digit_pair, IsDigitPair, number_of}
use Rattle.zvt_till.specs.declared.messages.StatusFacts.{StatusFacts}
use Rattle.zvt_till.specs.Statuses.{spells}
use Rattle.zvt_term.specs.declared.ledger.Row.{Row}
use Rattle.zvt_term.proofs.DigitLemmas.{are-digits, number_of-digits}
use Rattle.zvt_settle.specs.declared.deciding.Settlement.TheVariants.{Reversed}
use Rattle.zvt_settle.specs.declared.deciding.What.TheVariants.{Reversal}
use Rattle.zvt_settle.specs.Deciding.{same, did_not, reverses_as, taken_back, happened}
use Rattle.zvt_term.specs.Ledgers.{status_of_row, reversal_row, OneReversalDecides}
use Rattle.zvt_settle.proofs.Decisions.{takes_back_one}
use Rattle.zvt_term.proofs.LedgerDecides.{last-number, trace-of}
use Rattle.zvt_settle.proofs.Sameness.{same_is}

pair-decides : (x : ℕ) → Decides (is_digit_pair x) (IsDigitPair x)
pair-decides x = (λ e. grind (arith, nat_tests), λ h. grind (arith, nat_tests))

both-true : (a b : Bool) → a ≡ true → b ≡ true → (a && b) ≡ true
both-true true true p q = refl
both-true true false p q = absurd cc
both-true false b p q = absurd cc

own-spelling : (t : ℕ) → t ≤ 9999 → spells (digits 3 t) t ≡ true
own-spelling t few =
    both-true (list_all is_digit_pair (digits 3 t)) (number_of (digits 3 t) == t)
    ((Decides-by_and is_digit_pair IsDigitPair (list_all is_digit_pair) pair-decides refl (λ _ _. refl) (digits 3 t)).1 (are-digits 3 t (omega arith)))
    ((Decides-eqb (number_of (digits 3 t)) t).1 (number_of-digits 3 t (omega arith)))

four-true : (a b c d : Bool) → a ≡ true → b ≡ true → c ≡ true → d ≡ true → (a && b && c && d) ≡ true
four-true true true true true p q r s = refl
four-true true true true false p q r s = absurd cc
four-true true true false d p q r s = absurd cc
four-true true false c d p q r s = absurd cc
four-true false b c d p q r s = absurd cc

row-reverses : (next amount original currency : ℕ) → original ≤ 9999 → reverses_as currency amount original (status_of_row (reversal_row next amount original currency)) ≡ true
row-reverses next amount original currency few =
    four-true true (nat_eq currency currency) (nat_eq amount amount) (spells (digits 3 original) original) refl ((Decides-eqb currency currency).1 refl) ((Decides-eqb amount amount).1 refl) (own-spelling original few)

differs : (last row : Row) → last.number < row.number → (b : Bool) → same (status_of_row last) (status_of_row row) ≡ b → b ≡ false
differs last row h false e = refl
differs last row h true e =
    let traces : last.number ≡ row.number = ap (λ (s : StatusFacts). trace-of s.trace) (same_is (status_of_row last) (status_of_row row) e) in absurd (omega arith)

pub one_reversal_decides : OneReversalDecides
one_reversal_decides currency book used rows last place next entry numbered is-next found few =
    let ended = last-number 1 rows last numbered in
    let row = reversal_row next entry.amount entry.trace currency in
    let s = status_of_row row in
    ap (λ b. cond b (Some (did_not (Reversal place))) (happened currency book used (Reversal place) s))
    (differs last row (omega arith) (same (status_of_row last) s) refl)
    ∙ ap (λ o. taken_back currency (s ∷ []) place o) found
    ∙ ap (λ b. cond b (Some (Reversed place)) None) (takes_back_one currency place entry s ∙ row-reverses next entry.amount entry.trace currency few)
