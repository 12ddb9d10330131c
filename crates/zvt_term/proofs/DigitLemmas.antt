-- The digits of a number are digits, and spell it.
use Rattle.std.proofs.Common.{◌≡◌, ℕ, zero, suc, ◌+◌, ◌*◌, ◌/◌, ◌%◌, ◌^◌, ◌<◌, ◌≤◌, List, [], ◌∷◌, length, refl, ap, arith}
use Rattle.std.proofs.Math.Nat.{pow-suc, mod-lt, div-lt_iff_lt-mul}
use Rattle.std.proofs.lemmas.Nat.{div-add-mod'}
use Rattle.std.proofs.lemmas.List.Elements.{All-nil, All-cons, All-head, All-tail}
use Rattle.zvt_bcd.specs.Digits.{AreDigits, IsDigitPair, pair_number, number_of}
use Rattle.zvt_grammar.specs.Reading.{AreBytes}
use Rattle.zvt_apdu.specs.Briefs.{digits}

pub length-digits : (k n : ℕ) → length (digits k n) ≡ k
length-digits zero n = refl
length-digits (suc k) n = ap suc (length-digits k (n % 100 ^ k))

power-positive : (k : ℕ) → 0 < 100 ^ k
power-positive zero = omega arith
power-positive (suc k) = omega (arith, power-positive k, pow-suc 100 k)

one_pair : (q : ℕ) → q < 100 → IsDigitPair (q / 10 * 16 + q % 10)
one_pair q h = (omega arith, omega arith)

pair-back : (q : ℕ) → q < 100 → pair_number (q / 10 * 16 + q % 10) ≡ q
pair-back q h = omega arith

below : (k n : ℕ) → n < 100 ^ suc k → n / 100 ^ k < 100
below k n h = (div-lt_iff_lt-mul (power-positive k)).1 (omega (arith, h, pow-suc 100 k))

pub are-digits : (k n : ℕ) → n < 100 ^ k → AreDigits (digits k n)
are-digits zero n h = All-nil IsDigitPair
are-digits (suc k) n h =
    All-cons IsDigitPair (n / 100 ^ k / 10 * 16 + n / 100 ^ k % 10) (digits k (n % 100 ^ k)) (one_pair (n / 100 ^ k) (below k n h)) (are-digits k (n % 100 ^ k) (mod-lt n (power-positive k)))

pub number_of-digits : (k n : ℕ) → n < 100 ^ k → number_of (digits k n) ≡ n
number_of-digits zero n h = omega arith
number_of-digits (suc k) n h =
    rw (pair-back (n / 100 ^ k) (below k n h), length-digits k (n % 100 ^ k), number_of-digits k (n % 100 ^ k) (mod-lt n (power-positive k))) (div-add-mod' n (100 ^ k))

-- a number of four digits begins with two zeros among six
pub three-digits : (n : ℕ) → n ≤ 9999 → digits 3 n ≡ 0 ∷ digits 2 n
three-digits n h =
    let none : n / 10000 ≡ 0 = omega arith in
    let all : n % 10000 ≡ n = omega arith in
    rw (none, all) refl

-- digits are bytes
pub bytes_of : (s : List ℕ) → AreDigits s → AreBytes s
bytes_of [] d = tt
bytes_of (x ∷ s) d =
    let pair : IsDigitPair x = All-head IsDigitPair x s d in
    (omega (arith, pair.0, pair.1), bytes_of s (All-tail IsDigitPair x s d))
