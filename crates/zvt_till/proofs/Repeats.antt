-- A status that answers a reversal by its receipt number is no late answer to another order.
use Rattle.std.proofs.Common.{◌≡◌, ℕ, zero, suc, ◌+◌, Bool, true, false, not, cond, ◌&&◌, ◌||◌, ◌==◌, List, [], ◌∷◌, Option, Some, None, slice_get, option_map, refl, sym, ap, subst, ◌∙◌, arith, eq-eqb, zero-add}
use Rattle.std.specs.List.{count_by, list_all, list_any}
use Rattle.std.specs.Str.{bytes_eq}
use Rattle.std.proofs.lemmas.List.Sums.{sum_by-cons}
use Rattle.std.proofs.lemmas.Bool.Decides.{nat_tests}
use Rattle.std.proofs.lemmas.Slice.Eq.{bytes_eq-Decides}
use Rattle.zvt_bcd.specs.Digits.{is_digit_pair}
use Rattle.zvt_till.specs.declared.messages.Original.{Original}
use Rattle.zvt_till.specs.declared.messages.Original.TheVariants.{Absent, Once, Many}
use Rattle.zvt_till.specs.declared.messages.StatusFacts.{StatusFacts}
use Rattle.zvt_till.specs.declared.orders.Order.TheVariants.{Reverse as ReverseOrder}
use Rattle.zvt_till.specs.declared.outcomes.Cause.{Cause}
use Rattle.zvt_till.specs.declared.outcomes.Cause.TheVariants.{AmountDiffers, NoTrace, WrongCurrency}
use Rattle.zvt_till.specs.declared.entries.Entry.{Entry}
use Rattle.zvt_till.specs.ByReceipt.{count_of, has_unclear, is_sole, sole_receipt}
use Rattle.zvt_till.specs.Statuses.{Charge, Demand, Reversal, Good, Declining, Doubtful, is_absent, is_by_receipt, is_in_currency, is_value, names, class_undeclined, class_by, class_of}
use Rattle.zvt_till.specs.Outcomes.{charged, demand_of}
use Rattle.zvt_till.specs.Laws.{NoRepeatReverses}

-- what is counted once is one element

counts : (p : Entry → Bool) (xs : List Entry) (x : Entry) (n : ℕ) → count_by p (x ∷ xs) ≡ n → cond (p x) 1 0 + count_by p xs ≡ n
counts p xs x n is = sym (sum_by-cons (λ y. cond (p y) 1 0) x xs) ∙ is

passing : (p : Entry → Bool) (xs : List Entry) (x : Entry) (n : ℕ) → p x ≡ true → count_by p (x ∷ xs) ≡ n → 1 + count_by p xs ≡ n
passing p xs x n passes is = ap (λ (b : Bool). cond b 1 0 + count_by p xs) (sym passes) ∙ counts p xs x n is

failing : (p : Entry → Bool) (xs : List Entry) (x : Entry) (n : ℕ) → p x ≡ false → count_by p (x ∷ xs) ≡ n → count_by p xs ≡ n
failing p xs x n fails is = sym (zero-add (count_by p xs)) ∙ ap (λ (b : Bool). cond b 1 0 + count_by p xs) (sym fails) ∙ counts p xs x n is

uncounted : (p : Entry → Bool) (xs : List Entry) (i : ℕ) (x : Entry) → count_by p xs ≡ 0 → slice_get xs i ≡ Some x → p x ≡ true → ⊥
uncounted p [] i x none at passes = cc
uncounted p (y ∷ xs) zero x none at passes =
    let same : y ≡ x = cc in
    let more = passing p xs y 0 (ap p same ∙ passes) none in
    absurd (omega (arith, more))
uncounted p (y ∷ xs) (suc i) x none at passes = by_first (p y) refl (λ is. uncounted p xs i x (failing p xs y 0 is none) at passes)
  where
    by_first : (b : Bool) → p y ≡ b → (p y ≡ false → ⊥) → ⊥
    by_first true is later = let more = passing p xs y 0 is none in absurd (omega (arith, more))
    by_first false is later = later is

one_is : (p : Entry → Bool) (xs : List Entry) (i j : ℕ) (x y : Entry) → count_by p xs ≡ 1
    → slice_get xs i ≡ Some x → slice_get xs j ≡ Some y → p x ≡ true → p y ≡ true → x ≡ y
one_is p [] i j x y one at_x at_y is_x is_y = absurd cc
one_is p (z ∷ xs) zero zero x y one at_x at_y is_x is_y = cc
one_is p (z ∷ xs) zero (suc j) x y one at_x at_y is_x is_y =
    let same : z ≡ x = cc in
    let more = passing p xs z 1 (ap p same ∙ is_x) one in
    absurd (uncounted p xs j y (omega (arith, more)) at_y is_y)
one_is p (z ∷ xs) (suc i) zero x y one at_x at_y is_x is_y =
    let same : z ≡ y = cc in
    let more = passing p xs z 1 (ap p same ∙ is_y) one in
    absurd (uncounted p xs i x (omega (arith, more)) at_x is_x)
one_is p (z ∷ xs) (suc i) (suc j) x y one at_x at_y is_x is_y = by_first (p z) refl (λ is. one_is p xs i j x y (failing p xs z 1 is one) at_x at_y is_x is_y)
  where
    by_first : (b : Bool) → p z ≡ b → (p z ≡ false → x ≡ y) → x ≡ y
    by_first true is later = let more = passing p xs z 1 is one in absurd (uncounted p xs i x (omega (arith, more)) at_x is_x)
    by_first false is later = later is

none_is : (p : ℕ × Cause → Bool) (xs : List (ℕ × Cause)) (i : ℕ) (x : ℕ × Cause) → list_any p xs ≡ false → slice_get xs i ≡ Some x → p x ≡ false
none_is p [] i x none at = absurd cc
none_is p (y ∷ xs) zero x none at =
    let same : y ≡ x = cc in
    ap p (sym same) ∙ first (p y) (list_any p xs) none
  where
    first : (a b : Bool) → (a || b) ≡ false → a ≡ false
    first true b e = absurd cc
    first false b e = refl
none_is p (y ∷ xs) (suc i) x none at = none_is p xs i x (rest (p y) (list_any p xs) none) at
  where
    rest : (a b : Bool) → (a || b) ≡ false → b ≡ false
    rest true b e = absurd cc
    rest false b e = e

-- a good status that names no payment goes by its receipt number

unnamed : (original : Original) (trace : ℕ) → is_absent original ≡ true → names original trace ≡ false
unnamed Absent trace e = refl
unnamed (Once bytes) trace e = absurd cc
unnamed Many trace e = absurd cc

by_tests : (own same named other : Bool) (t : Option ℕ)
    → cond own (cond same (cond named (Good None) (cond other (Good None) (Doubtful NoTrace))) (Doubtful AmountDiffers)) (Doubtful WrongCurrency) ≡ Good t
    → named ≡ false → (same ≡ true) × (other ≡ true)
by_tests true true true other t e n = absurd cc
by_tests true true false true t e n = (refl, refl)
by_tests true true false false t e n = absurd cc
by_tests true false named other t e n = absurd cc
by_tests false same named other t e n = absurd cc

good_by : (charge : Charge) (trace : ℕ) (sole : Option (List ℕ)) (s : StatusFacts) (r : Option ℕ) (t : Option ℕ) → class_by r (Reversal charge trace sole) s ≡ Good t
    → is_absent s.original ≡ true → (is_value s.amount charge.amount ≡ true) × (is_by_receipt sole s.original s.receipt ≡ true)
good_by charge trace sole s None t e absent = absurd cc
good_by charge trace sole s (Some code) t e absent = by_code (code == 0) e
  where
    by_code : (b : Bool) → cond b (class_undeclined (Reversal charge trace sole) s) (Declining code) ≡ Good t
        → (is_value s.amount charge.amount ≡ true) × (is_by_receipt sole s.original s.receipt ≡ true)
    by_code true is =
        by_tests (is_in_currency charge.currency s.currency) (is_value s.amount charge.amount) (names s.original trace) (is_by_receipt sole s.original s.receipt) t is
        (unnamed s.original trace absent)
    by_code false is = absurd cc

valued : (named : Option ℕ) (n : ℕ) → is_value named n ≡ true → named ≡ Some n
valued None n e = absurd cc
valued (Some m) n e = ap (λ x. Some x) (grind (arith, nat_tests))

last_test : (a b c : Bool) → (a && b && not c) ≡ true → c ≡ false
last_test true true true e = absurd cc
last_test true true false e = refl
last_test true false c e = absurd cc
last_test false b c e = absurd cc

-- what such a receipt number says of the rule, of the entry and of its amount
pub record IsNew (by_receipt only : Bool) (own receipt : Option (List ℕ)) : Type 0 where
  pub stated : by_receipt ≡ true
  pub sole : only ≡ true
  pub differs : own ≡ receipt → ⊥

is_new : (by_receipt only : Bool) (own : Option (List ℕ)) (original : Original) (receipt : Option (List ℕ))
    → is_by_receipt (cond (by_receipt && only) own None) original receipt ≡ true → IsNew by_receipt only own receipt
is_new false only own original receipt e = absurd cc
is_new true false own original receipt e = absurd cc
is_new true true None original receipt e = absurd cc
is_new true true (Some own) original None e = absurd cc
is_new true true (Some own) original (Some other) e =
    let apart = last_test (is_absent original) (list_all is_digit_pair other) (bytes_eq other own) e in
    record {
      stated = refl;
      sole = refl;
      differs = λ same.
          let equal : other ≡ own = cc in
          let alike = (bytes_eq-Decides other own).1 equal in
          absurd cc;
    }

alone : (amount : ℕ) (book : List Entry) (unclear : List (ℕ × Cause)) (one lost : Bool) → (count_of amount book == 1) ≡ one → has_unclear amount unclear ≡ lost
    → (one && not lost) ≡ true → (count_of amount book ≡ 1) × (has_unclear amount unclear ≡ false)
alone amount book unclear true true a b e = absurd cc
alone amount book unclear true false a b e = (grind (arith, nat_tests), b)
alone amount book unclear false lost a b e = absurd cc

pub no_repeat_reverses : NoRepeatReverses
no_repeat_reverses rules currency book unclear e row d s t at demanded good absent =
    let sole : Option (List ℕ) = sole_receipt rules.reversal_by_receipt book unclear row in
    let charge : Charge = charged currency row.amount in
    let asked : demand_of rules currency book unclear (ReverseOrder e) ≡ Some (Reversal charge row.trace sole) =
    ap (option_map (λ (x : Entry). Reversal (charged currency x.amount) x.trace (sole_receipt rules.reversal_by_receipt book unclear x))) at in
    let same : d ≡ Reversal charge row.trace sole = some_is d (Reversal charge row.trace sole) (sym demanded ∙ asked) in
    let by = good_by charge row.trace sole s s.result t (subst (λ x. class_of x s ≡ Good t) same good) absent in
    let new = is_new rules.reversal_by_receipt (is_sole row.amount book unclear) row.receipt s.original s.receipt by.1 in
    let only = alone row.amount book unclear (count_of row.amount book == 1) (has_unclear row.amount unclear) refl refl new.sole in (
      new.stated,
      valued s.amount row.amount by.0,
      (λ i other here amount receipt. new.differs (ap (λ (x : Entry). x.receipt) (sym (one_is (λ x. x.amount == row.amount) book i e other row only.0 here at (eq-eqb other.amount row.amount amount) (eq-eqb row.amount row.amount refl))) ∙ receipt)),
      λ i lost here amount.
          let fails = none_is (λ x. x.0 == row.amount) unclear i lost only.1 here in
          let passes : (lost.0 == row.amount) ≡ true = eq-eqb lost.0 row.amount amount in
          absurd cc,
    )
  where
    some_is : (a b : Demand) → Some a ≡ Some b → a ≡ b
    some_is a b e = cc
