-- Whether bytes are digits, as a test.
use Rattle.std.proofs.Common.{◌≡◌, ℕ, Bool, true, false, ◌&&◌, IsTrue, ◌↔◌, List, [], ◌∷◌, refl, sym, ap₂}
use Rattle.std.specs.List.{list_all}
use Rattle.std.proofs.lemmas.Bool.{and_parts}
use Rattle.std.proofs.lemmas.List.Elements.{All-nil, All-cons, All-head, All-tail}
use Rattle.zvt_bcd.specs.Digits.{IsDigitPair, AreDigits, is_digit_pair}
use Rattle.zvt_bcd.proofs.PairTests.{is_pair_test, is_pair}

digits_pass : (bytes : List ℕ) → AreDigits bytes → list_all is_digit_pair bytes ≡ true
digits_pass [] d = refl
digits_pass (byte ∷ bytes) d =
    ap₂ (λ a b. a && b) (is_pair_test byte (All-head IsDigitPair byte bytes d)) (digits_pass bytes (All-tail IsDigitPair byte bytes d))

pub passing_digits : (bytes : List ℕ) → list_all is_digit_pair bytes ≡ true → AreDigits bytes
passing_digits [] e = All-nil IsDigitPair
passing_digits (byte ∷ bytes) e =
    let tests = and_parts (is_digit_pair byte) (list_all is_digit_pair bytes) e in
    All-cons IsDigitPair byte bytes (is_pair byte tests.0) (passing_digits bytes tests.1)

-- an answer that says whether bytes are digits is the test
pub digits_tested : (bytes : List ℕ) (b : Bool) → (IsTrue b ↔ AreDigits bytes) → b ≡ list_all is_digit_pair bytes
digits_tested bytes true d = sym (digits_pass bytes (d.0 refl))
digits_tested bytes false d = by (list_all is_digit_pair bytes) refl
  where
    by : (c : Bool) → list_all is_digit_pair bytes ≡ c → false ≡ c
    by true e = d.1 (passing_digits bytes e)
    by false e = refl
