-- Digits and their number.
use Rattle.std.proofs.Common.{◌≡◌, Option, Some, None, IsSome, IfSome, is_some, unwrap_or, ℕ, zero, suc, ◌+◌, ◌*◌, ◌/◌, ◌%◌, ◌^◌, ◌<◌, length, refl, ap, ◌∙◌, arith, lit<}
use Rattle.std.proofs.lemmas.Bool.{false≢true}
use Rattle.std.proofs.Math.Nat.{pow-suc, mod-lt, div-lt_iff_lt-mul, div-add-mod, mul_comm}
use Rattle.std.proofs.lemmas.List.Elements.{All-cons, All-nil}
use Rattle.zvt_bcd.specs.Digits.{AreDigits, IsDigitPair, pair_number, number_of}
use Rattle.zvt_apdu.specs.Briefs.{digits}

pub digits-long : (k n : ℕ) → length (digits k n) ≡ k
digits-long zero n = refl
digits-long (suc k) n = ap suc (digits-long k (n % 100 ^ k))

pair-of : (q : ℕ) → q < 100 → pair_number (q / 10 * 16 + q % 10) ≡ q
pair-of q h = omega (arith, h)

pair-is : (q : ℕ) → q < 100 → IsDigitPair (q / 10 * 16 + q % 10)
pair-is q h = (omega (arith, h), omega (arith, h))

power-some : (k : ℕ) → 0 < 100 ^ k
power-some zero = lit< tt
power-some (suc k) = omega (arith, power-some k, pow-suc 100 k)

high-small : (k n : ℕ) → n < 100 ^ suc k → n / 100 ^ k < 100
high-small k n h = (div-lt_iff_lt-mul (power-some k)).1 (omega (arith, h, pow-suc 100 k))

pub digits-pairs : (k n : ℕ) → n < 100 ^ k → AreDigits (digits k n)
digits-pairs zero n h = All-nil IsDigitPair
digits-pairs (suc k) n h =
    All-cons IsDigitPair _ (digits k (n % 100 ^ k)) (pair-is (n / 100 ^ k) (high-small k n h)) (digits-pairs k (n % 100 ^ k) (mod-lt n (power-some k)))

pub digits-number : (k n : ℕ) → n < 100 ^ k → number_of (digits k n) ≡ n
digits-number zero n h = omega (arith, h)
digits-number (suc k) n h =
    let q = n / 100 ^ k in
    let low : number_of (digits k (n % 100 ^ k)) ≡ n % 100 ^ k = digits-number k (n % 100 ^ k) (mod-lt n (power-some k)) in
    rw (digits-long k (n % 100 ^ k), low, pair-of q (high-small k n h)) (ap (λ (x : ℕ). x + n % 100 ^ k) (mul_comm q (100 ^ k)) ∙ div-add-mod n (100 ^ k))

-- what is given, and is this number
pub given-value : (r : Option ℕ) (u n : ℕ) → IsSome r → IfSome r (λ a. a ≡ u) → u ≡ n → r ≡ Some n
given-value None u n s v e = absurd (false≢true s)
given-value (Some a) u n s v e = ap Some (v ∙ e)

pub some-same : (a b : ℕ) → ◌≡◌ {A = Option ℕ} (Some a) (Some b) → a ≡ b
some-same a b e = ap (λ (o : Option ℕ). unwrap_or o 0) e

pub none-some : {A : Type 0} (b : A) → ◌≡◌ {A = Option A} None (Some b) → ⊥
none-some b e = false≢true (ap is_some e)
