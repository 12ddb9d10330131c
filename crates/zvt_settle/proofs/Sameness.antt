-- Two statuses with the same values are equal.
use Rattle.std.proofs.Common.{◌≡◌, ℕ, Bool, true, false, ◌&&◌, nat_eq, List, Option, Some, None, refl, ap, ◌∙◌}
use Rattle.std.specs.Option.{option_eq}
use Rattle.std.specs.Str.{bytes_eq}
use Rattle.std.proofs.lemmas.Bool.Decides.{Decides-eqb}
use Rattle.std.proofs.lemmas.Slice.Eq.{bytes_eq-Decides}
use Rattle.zvt_till.specs.declared.messages.StatusFacts.{StatusFacts}
use Rattle.zvt_till.specs.declared.messages.Original.{Original}
use Rattle.zvt_till.specs.declared.messages.Original.TheVariants.{Absent, Once, Many}
use Rattle.zvt_till.specs.declared.messages.CurrencyFact.{CurrencyFact}
use Rattle.zvt_till.specs.declared.messages.CurrencyFact.TheVariants.{Absent as NoCurrency, Once as OneCurrency, Many as ManyCurrencies}
use Rattle.zvt_settle.specs.Deciding.{same, same_flags, same_original, same_currency}

same_numbers : (x y : Option ℕ) → option_eq nat_eq x y ≡ true → x ≡ y
same_numbers None None e = refl
same_numbers None (Some b) e = absurd cc
same_numbers (Some a) None e = absurd cc
same_numbers (Some a) (Some b) e = ap Some ((Decides-eqb a b).0 e)

same_receipts : (x y : Option (List ℕ)) → option_eq bytes_eq x y ≡ true → x ≡ y
same_receipts None None e = refl
same_receipts None (Some b) e = absurd cc
same_receipts (Some a) None e = absurd cc
same_receipts (Some a) (Some b) e = ap Some ((bytes_eq-Decides a b).0 e)

one_original : (x y : Original) → same_original x y ≡ true → x ≡ y
one_original Absent Absent e = refl
one_original Absent (Once y) e = absurd cc
one_original Absent Many e = absurd cc
one_original (Once x) Absent e = absurd cc
one_original (Once x) (Once y) e = ap Once ((bytes_eq-Decides x y).0 e)
one_original (Once x) Many e = absurd cc
one_original Many Absent e = absurd cc
one_original Many (Once y) e = absurd cc
one_original Many Many e = refl

one_currency : (x y : CurrencyFact) → same_currency x y ≡ true → x ≡ y
one_currency NoCurrency NoCurrency e = refl
one_currency NoCurrency (OneCurrency y) e = absurd cc
one_currency NoCurrency ManyCurrencies e = absurd cc
one_currency (OneCurrency x) NoCurrency e = absurd cc
one_currency (OneCurrency x) (OneCurrency y) e = ap OneCurrency ((Decides-eqb x y).0 e)
one_currency (OneCurrency x) ManyCurrencies e = absurd cc
one_currency ManyCurrencies NoCurrency e = absurd cc
one_currency ManyCurrencies (OneCurrency y) e = absurd cc
one_currency ManyCurrencies ManyCurrencies e = refl

one_flag : (x y : Bool) → same_flags x y ≡ true → x ≡ y
one_flag true true e = refl
one_flag true false e = absurd cc
one_flag false true e = absurd cc
one_flag false false e = refl

record AllSeven (a b c d e f g : Bool) : Type 0 where
  one : a ≡ true
  two : b ≡ true
  three : c ≡ true
  four : d ≡ true
  five : e ≡ true
  six : f ≡ true
  seven : g ≡ true

all_seven : (a b c d e f g : Bool) → (a && b && c && d && e && f && g) ≡ true → AllSeven a b c d e f g
all_seven true true true true true true true h = record { one = refl; two = refl; three = refl; four = refl; five = refl; six = refl; seven = refl }
all_seven true true true true true true false h = absurd cc
all_seven true true true true true false g h = absurd cc
all_seven true true true true false f g h = absurd cc
all_seven true true true false e f g h = absurd cc
all_seven true true false d e f g h = absurd cc
all_seven true false c d e f g h = absurd cc
all_seven false b c d e f g h = absurd cc

abbrev facts : Option ℕ → Bool → Option ℕ → Option ℕ → Option (List ℕ) → Original → CurrencyFact → StatusFacts
facts r h a t p o c = record { result = r; has_result = h; amount = a; trace = t; receipt = p; original = o; currency = c }

pub same_is : (a b : StatusFacts) → same a b ≡ true → a ≡ b
same_is a b h =
    let all = all_seven (option_eq nat_eq a.result b.result) (same_flags a.has_result b.has_result) (option_eq nat_eq a.amount b.amount) (option_eq nat_eq a.trace b.trace) (option_eq bytes_eq a.receipt b.receipt) (same_original a.original b.original) (same_currency a.currency b.currency) h in
    ap (λ x. facts x a.has_result a.amount a.trace a.receipt a.original a.currency) (same_numbers a.result b.result all.one)
    ∙ ap (λ x. facts b.result x a.amount a.trace a.receipt a.original a.currency) (one_flag a.has_result b.has_result all.two)
    ∙ ap (λ x. facts b.result b.has_result x a.trace a.receipt a.original a.currency) (same_numbers a.amount b.amount all.three)
    ∙ ap (λ x. facts b.result b.has_result b.amount x a.receipt a.original a.currency) (same_numbers a.trace b.trace all.four)
    ∙ ap (λ x. facts b.result b.has_result b.amount b.trace x a.original a.currency) (same_receipts a.receipt b.receipt all.five)
    ∙ ap (λ x. facts b.result b.has_result b.amount b.trace b.receipt x a.currency) (one_original a.original b.original all.six)
    ∙ ap (λ x. facts b.result b.has_result b.amount b.trace b.receipt b.original x) (one_currency a.currency b.currency all.seven)
