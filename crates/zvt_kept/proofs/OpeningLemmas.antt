-- The opening of a journal is one that zvt_journal takes for the first record, and what it names is one.
use Rattle.std.proofs.Common.{◌≡◌, ℕ, zero, suc, ◌<◌, ◌≤◌, ◌&&◌, ◌||◌, Bool, true, false, List, [], ◌∷◌, ◌++◌, length, get_or, drop, refl, sym, ap, ◌∙◌, arith, lit<}
use Rattle.std.specs.Prelude.{decimal, replicate}
use Rattle.std.proofs.lemmas.Bool.Decides.{nat_tests}
use Rattle.std.proofs.lemmas.Bool.{false≢true}
use Rattle.std.proofs.lemmas.Fmt.{decimal_injective, decimal_is_IsNumeral, length-decimal-le}
use Rattle.std.specs.Char.{is_ascii_digit}
use Rattle.std.specs.List.{list_all}
use Rattle.zvt_journal.specs.Files.{IsOpening, is_opening_part, is_part, is_ruled_part, may_stand, opening_behind, rule_words}
use Rattle.zvt_kept.specs.Logs.{OpeningsAreOne}
use Rattle.zvt_kept.specs.Records.{opening}
use Rattle.zvt_kept.proofs.NoteLemmas.{both}
use Rattle.zvt_kept.proofs.Numbers.{all_shown}

digit_stands : (byte : ℕ) → is_ascii_digit byte ≡ true → may_stand byte 48 ≡ true
digit_stands byte is = grind (arith, nat_tests)

rule_part : (by_receipt : Bool) → is_part ((rule_words by_receipt ++ 10 ∷ []) ++ 10 ∷ []) (rule_words by_receipt ++ 10 ∷ 10 ∷ []) ≡ true
rule_part false = refl
rule_part true = refl

digits_part : (by_receipt : Bool) (ds : List ℕ) → list_all is_ascii_digit ds ≡ true
    → is_part (ds ++ rule_words by_receipt ++ 10 ∷ [] ++ 10 ∷ []) (replicate (length ds) 48 ++ rule_words by_receipt ++ 10 ∷ 10 ∷ []) ≡ true
digits_part by_receipt [] all = rule_part by_receipt
digits_part by_receipt (d ∷ ds) all =
    let parts = both (is_ascii_digit d) (list_all is_ascii_digit ds) all in
    ap (λ (b : Bool). b && is_part (ds ++ rule_words by_receipt ++ 10 ∷ [] ++ 10 ∷ []) (replicate (length ds) 48 ++ rule_words by_receipt ++ 10 ∷ 10 ∷ [])) (digit_stands d parts.0)
    ∙ digits_part by_receipt ds parts.1

or_true : (a : Bool) → (a || true) ≡ true
or_true true = refl
or_true false = refl

-- digits of one of the four sizes
sized : (by_receipt : Bool) (part : List ℕ) (n : ℕ) → 0 < n → n ≤ 4 → is_part part (opening_behind by_receipt n) ≡ true → is_ruled_part by_receipt part ≡ true
sized r part zero least most is = absurd (omega (arith, least))
sized r part (suc zero) least most is = rw is refl
sized r part (suc (suc zero)) least most is = rw (is, or_true (is_part part (opening_behind r 1))) refl
sized r part (suc (suc (suc zero))) least most is = rw (is, or_true (is_part part (opening_behind r 1) || is_part part (opening_behind r 2))) refl
sized r part (suc (suc (suc (suc zero)))) least most is = rw is (or_true (is_part part (opening_behind r 1) || is_part part (opening_behind r 2) || is_part part (opening_behind r 3)))
sized r part (suc (suc (suc (suc (suc n))))) least most is = absurd (omega (arith, most))

ruled : (by_receipt : Bool) (part : List ℕ) → is_ruled_part by_receipt part ≡ true → is_opening_part part ≡ true
ruled false part is = ap (λ (b : Bool). b || is_ruled_part true part) is
ruled true part is = ap (λ (b : Bool). is_ruled_part false part || b) is ∙ or_true (is_ruled_part false part)

pub opens : (currency : ℕ) (by_receipt : Bool) → currency ≤ 9999 → IsOpening (opening currency by_receipt)
opens currency by_receipt fits =
    let numeral = decimal_is_IsNumeral currency (omega (arith, fits)) in
    let few : length (decimal currency) ≤ 4 = length-decimal-le 4 currency (lit< tt) (omega (arith, fits)) (omega (arith, fits)) in
    let part = drop 1 (opening currency by_receipt) ++ 10 ∷ [] in
    record {
      named = refl;
      part = ruled by_receipt part (sized by_receipt part (length (decimal currency)) numeral.0.0 few (digits_part by_receipt (decimal currency) (all_shown (decimal currency) numeral.0.1)));
    }

-- ---- what an opening names

-- behind the digits of the currency comes no further digit
no_digit : (by_receipt : Bool) (rest : List ℕ) (digit : ℕ) (more : List ℕ) → rule_words by_receipt ++ 10 ∷ [] ++ rest ≡ digit ∷ more → is_ascii_digit digit ≡ true → ⊥
no_digit false rest digit more is shown = false≢true (ap is_ascii_digit (ap (λ (k : List ℕ). get_or k 0 0) is) ∙ shown)
no_digit true rest digit more is shown = false≢true (ap is_ascii_digit (ap (λ (k : List ℕ). get_or k 0 0) is) ∙ shown)

same_rule : (a b : Bool) (x y : List ℕ) → rule_words a ++ 10 ∷ [] ++ x ≡ rule_words b ++ 10 ∷ [] ++ y → a ≡ b
same_rule false false x y is = refl
same_rule true true x y is = refl
same_rule false true x y is = let first : 10 ≡ 44 = ap (λ (k : List ℕ). get_or k 0 0) is in absurd (omega (arith, first))
same_rule true false x y is = let first : 44 ≡ 10 = ap (λ (k : List ℕ). get_or k 0 0) is in absurd (omega (arith, first))

same_opening : (a b : Bool) (ds es x y : List ℕ) → list_all is_ascii_digit ds ≡ true → list_all is_ascii_digit es ≡ true
    → ds ++ rule_words a ++ 10 ∷ [] ++ x ≡ es ++ rule_words b ++ 10 ∷ [] ++ y → (ds ≡ es) × (a ≡ b)
same_opening a b [] [] x y shown these is = (refl, same_rule a b x y is)
same_opening a b [] (e ∷ es) x y shown these is =
    absurd (no_digit a x e (es ++ rule_words b ++ 10 ∷ [] ++ y) is (both (is_ascii_digit e) (list_all is_ascii_digit es) these).0)
same_opening a b (d ∷ ds) [] x y shown these is =
    absurd (no_digit b y d (ds ++ rule_words a ++ 10 ∷ [] ++ x) (sym is) (both (is_ascii_digit d) (list_all is_ascii_digit ds) shown).0)
same_opening a b (d ∷ ds) (e ∷ es) x y shown these is =
    let first : d ≡ e = ap (λ (k : List ℕ). get_or k 0 0) is in
    let more = same_opening a b ds es x y (both (is_ascii_digit d) (list_all is_ascii_digit ds) shown).1 (both (is_ascii_digit e) (list_all is_ascii_digit es) these).1 (ap (λ (k : List ℕ). drop 1 k) is) in
    (ap (λ (c : ℕ). c ∷ ds) first ∙ ap (λ (l : List ℕ). e ∷ l) more.0, more.1)

digits_of : (currency : ℕ) → currency ≤ 9999 → list_all is_ascii_digit (decimal currency) ≡ true
digits_of currency fits = let numeral = decimal_is_IsNumeral currency (omega (arith, fits)) in all_shown (decimal currency) numeral.0.1

pub openings_are_one : OpeningsAreOne
openings_are_one a b text fits these x y =
    let same = same_opening a.rules.reversal_by_receipt b.rules.reversal_by_receipt (decimal a.currency) (decimal b.currency) x.0 y.0 (digits_of a.currency fits) (digits_of b.currency these)
    (ap (λ (k : List ℕ). drop 26 k) (sym x.1 ∙ y.1)) in
    (decimal_injective a.currency b.currency (omega (arith, fits)) (omega (arith, these)) same.0, same.1)
