-- The test of a pair of digits says what it is for.
use Rattle.std.proofs.Common.{◌≡◌, ℕ, ◌/◌, ◌%◌, nat_le, true}
use Rattle.std.proofs.lemmas.Bool.{and_from, and_parts, le-leb, leb-true}
use Rattle.zvt_bcd.specs.Digits.{IsDigitPair, is_digit_pair}

pub is_pair_test : (x : ℕ) → IsDigitPair x → is_digit_pair x ≡ true
is_pair_test x p = and_from (nat_le (x / 16) 9) (nat_le (x % 16) 9) (le-leb (x / 16) 9 p.0) (le-leb (x % 16) 9 p.1)

pub is_pair : (x : ℕ) → is_digit_pair x ≡ true → IsDigitPair x
is_pair x e =
    let both = and_parts (nat_le (x / 16) 9) (nat_le (x % 16) 9) e in
    (leb-true (x / 16) 9 both.0, leb-true (x % 16) 9 both.1)
