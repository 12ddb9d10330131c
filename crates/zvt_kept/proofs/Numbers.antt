-- Decimal digits, as words and as what they are read as.
use Rattle.std.proofs.Common.{◌≡◌, ℕ, ◌^◌, ◌<◌, ◌≤◌, true, false, Option, Some, None, IsSome, IfSome, ◌↔◌, List, [], ◌∷◌, All, length, refl, ap, arith, lit<}
use Rattle.std.specs.Prelude.{decimal}
use Rattle.std.proofs.lemmas.Bool.Decides.{nat_tests}
use Rattle.std.proofs.lemmas.Bool.{lt-ltb, le-leb}
use Rattle.std.proofs.lemmas.Fmt.{decimal_is_IsNumeral, length-decimal-le}
use Rattle.std.proofs.lemmas.List.Elements.{All-from_get_or}
use Rattle.std.proofs.lemmas.Str.Parse.{digit_at}
use Rattle.std.specs.Char.{digit_value, is_ascii_digit}
use Rattle.std.specs.List.{list_all}
use Rattle.std.specs.Str.Parse.{AllDigits, digits_value}
use Rattle.zvt_text.specs.Words.{is_count, is_number}
use Rattle.zvt_kept.specs.Records.{not_zero, number_of}

digit_shown : (c : ℕ) → digit_value c < 10 → is_ascii_digit c ≡ true
digit_shown c h = grind (arith, nat_tests)

pub all_shown : (ds : List ℕ) → AllDigits 10 ds → list_all is_ascii_digit ds ≡ true
all_shown [] h = refl
all_shown (c ∷ cs) h = rw (digit_shown c h.0, all_shown cs h.1) refl

-- ---- amounts

pub amount_is : (r : Option ℕ) (n : ℕ) → IsSome r ↔ ((1 ≤ n) × (n ≤ 999999999999)) → IfSome r (λ amount. amount ≡ n) → 1 ≤ n → n ≤ 999999999999 → r ≡ Some n
amount_is (Some amount) n given value least most = ap (λ (m : ℕ). Some m) value
amount_is None n given value least most = let some : false ≡ true = given.1 (least, most) in absurd (cc)

-- ---- numbers that are written

some_count : (n : ℕ) → 0 < n → n ≤ 12 → is_count 12 n ≡ true
some_count n least most = rw (lt-ltb 0 n least, le-leb n 12 most) refl

not_zero_is : (n : ℕ) → 0 < n → not_zero n ≡ Some n
not_zero_is n some = grind (arith, nat_tests)

value_back : (ds : List ℕ) (n : ℕ) → is_number 12 ds ≡ true → digits_value 10 ds ≡ n → 0 < n → number_of ds ≡ Some n
value_back ds n is value some = rw (is, value) (not_zero_is n some)

-- a number of at most twelve digits is read back
pub number_back : (n : ℕ) → 0 < n → n ≤ 999999999999 → number_of (decimal n) ≡ Some n
number_back n some most =
    let numeral = decimal_is_IsNumeral n (omega arith) in
    let few : length (decimal n) ≤ 12 = length-decimal-le 12 n (lit< tt) (omega arith) (omega arith) in
    let count : is_count 12 (length (decimal n)) ≡ true = some_count (length (decimal n)) numeral.0.0 few in
    let shown : list_all is_ascii_digit (decimal n) ≡ true = all_shown (decimal n) numeral.0.1 in
    value_back (decimal n) n (rw (count, shown) refl) numeral.1 some

-- a digit of it is no space
pub decimal_unspaced : (n : ℕ) → n < 2 ^ 64 → All (λ byte. 32 < byte) (decimal n)
decimal_unspaced n fits =
    let numeral = decimal_is_IsNumeral n fits in
    All-from_get_or (λ byte. 32 < byte) (decimal n) 0 (λ i below. let at = digit_at (decimal n) i numeral.0.1 below in omega arith)

-- a digit of it is no control character
pub decimal_plain : (n : ℕ) → n < 2 ^ 64 → All (λ byte. 31 < byte) (decimal n)
decimal_plain n fits =
    let numeral = decimal_is_IsNumeral n fits in
    All-from_get_or (λ byte. 31 < byte) (decimal n) 0 (λ i below. let at = digit_at (decimal n) i numeral.0.1 below in omega arith)
