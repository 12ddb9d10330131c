-- Numbers in decimal digits.
use Rattle.std.proofs.Common.{◌≡◌, ℕ, ◌+◌, ◌-◌, ◌*◌, ◌^◌, ◌<◌, ◌≤◌, ◌&&◌, Bool, true, false, cond, nat_le, nat_lt, List, [], ◌∷◌, length, take, get_or, Option, Some, None, refl, subst, arith, lit<, lit≤}
use Rattle.std.proofs.lemmas.Bool.Decides.{nat_tests}
use Rattle.std.proofs.lemmas.Bool.{leb-true}
use Rattle.std.proofs.lemmas.Int.Digits.{digits_value-lt, digits_value_more}
use Rattle.std.proofs.lemmas.Str.Parse.{digits_value-take-le, digit_at}
use Rattle.std.proofs.Math.Nat.{pow-le-pow_right}
use Rattle.std.specs.Char.{digit_value, is_ascii_digit}
use Rattle.std.specs.Int.{IsInRange}
use Rattle.std.specs.List.{list_all, position, position_or_len}
use borrow.Author.Tests.{ltb-false}
use Rattle.std.specs.Str.Parse.{AllDigits, digits_value}
use Rattle.zvt_text.specs.Words.{WordRows, is_count, is_number}

digit_small : (c : ℕ) → is_ascii_digit c ≡ true → digit_value c < 10
digit_small c h = grind (arith, nat_tests)

digit_is : (c : ℕ) → IsInRange 48 57 c → digit_value c ≡ c - 48
digit_is c h = grind (arith, nat_tests)

split : (a b : Bool) → (a && b) ≡ true → (a ≡ true) × (b ≡ true)
split true true h = (refl, refl)
split true false h = (refl, h)
split false b h = absurd (cc)

pub all_digits : (ds : List ℕ) → list_all is_ascii_digit ds ≡ true → AllDigits 10 ds
all_digits [] h = tt
all_digits (c ∷ cs) h = let p = split (is_ascii_digit c) (list_all is_ascii_digit cs) h in (digit_small c p.0, all_digits cs p.1)

-- what is in a number
pub record Known (most : ℕ) (ds : List ℕ) : Type 0 where
  pub all : list_all is_ascii_digit ds ≡ true
  pub few : length ds ≤ most

pub known : (most : ℕ) (ds : List ℕ) → is_number most ds ≡ true → Known most ds
known most ds h =
    let p = split (is_count most (length ds)) (list_all is_ascii_digit ds) h in
    let q = split (nat_lt 0 (length ds)) (nat_le (length ds) most) p.0 in
    record { all = p.1; few = leb-true (length ds) most q.1 }

pub value_small : (most : ℕ) (ds : List ℕ) → list_all is_ascii_digit ds ≡ true → length ds ≤ most → digits_value 10 ds < 10 ^ most
value_small most ds all few =
    let p : digits_value 10 ds < 10 ^ length ds = digits_value-lt 10 ds (all_digits ds all) in
    let q : 10 ^ length ds ≤ 10 ^ most = pow-le-pow_right (lit< tt) few in
    omega arith

-- one digit more
pub record Next (ds : List ℕ) (i number : ℕ) : Type 0 where
  pub value : number ≡ digits_value 10 (take (i + 1) ds)
  pub small : number < 10 ^ 19

pub next : (ds : List ℕ) (i value : ℕ) → list_all is_ascii_digit ds ≡ true → length ds ≤ 19 → i < length ds → value ≡ digits_value 10 (take i ds) → Next ds i (value * 10 + (get_or ds i 0 - 48))
next ds i value all few below is =
    let digit : digit_value (get_or ds i 0) ≡ get_or ds i 0 - 48 = digit_is (get_or ds i 0) (digit_at ds i (all_digits ds all) below) in
    let more : digits_value 10 (take (i + 1) ds) ≡ digits_value 10 (take i ds) * 10 + digit_value (get_or ds i 0) = digits_value_more 10 ds i below in
    let whole : digits_value 10 ds < 10 ^ 19 = value_small 19 ds all few in
    let part : digits_value 10 (take (i + 1) ds) ≤ digits_value 10 ds = digits_value-take-le 10 ds (i + 1) (lit≤ tt) in
    let e : value * 10 + (get_or ds i 0 - 48) ≡ digits_value 10 (take (i + 1) ds) = rw (is, ← digit, ← more) refl in
    record { value = e; small = omega arith }

rows : WordRows
rows = (refl, refl, refl, refl, refl, refl, refl, refl, refl, refl, refl)

-- ---- the place of a byte

-- where a first place is
in_reach : (p : ℕ → Bool) (words : List ℕ) → position_or_len p words ≤ length words
in_reach p [] = omega arith
in_reach p (byte ∷ words) = by_test (p byte) refl (in_reach p words)
  where
    by_test : (b : Bool) → p byte ≡ b → position_or_len p words ≤ length words → position_or_len p (byte ∷ words) ≤ length (byte ∷ words)
    by_test true is more = rw is (omega arith)
    by_test false is more = rw is (omega (arith, more))

pub found_at : (p : ℕ → Bool) (words : List ℕ) (n : ℕ) → position p words ≡ Some n → n ≡ position_or_len p words
found_at p words n is = by_test (nat_lt (position_or_len p words) (length words)) refl
  where
    by_test : (b : Bool) → nat_lt (position_or_len p words) (length words) ≡ b → n ≡ position_or_len p words
    by_test true less = let same : Some (position_or_len p words) ≡ Some n = subst (λ (b : Bool). cond b (Some (position_or_len p words)) None ≡ Some n) less is in cc same
    by_test false more = let none : None ≡ Some n = subst (λ (b : Bool). cond b (Some (position_or_len p words)) None ≡ Some n) more is in absurd cc

pub not_found : (p : ℕ → Bool) (words : List ℕ) → position p words ≡ None → length words ≡ position_or_len p words
not_found p words is = by_test (nat_lt (position_or_len p words) (length words)) refl
  where
    by_test : (b : Bool) → nat_lt (position_or_len p words) (length words) ≡ b → length words ≡ position_or_len p words
    by_test true less = let some : Some (position_or_len p words) ≡ None = subst (λ (b : Bool). cond b (Some (position_or_len p words)) None ≡ None) less is in absurd cc
    by_test false more = let all = in_reach p words in let least = ltb-false (position_or_len p words) (length words) more in omega (arith, all, least)
