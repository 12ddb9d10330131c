-- The hexadecimal text of bytes.
use Rattle.std.proofs.Common.{◌≡◌, ap, refl, arith, ℕ, zero, suc, ◌+◌, ◌*◌, ◌/◌, ◌%◌, ◌<◌, ◌==◌, inl, inr, List, [], ◌∷◌, slice_index, Bool, true, ◌&&◌, nat_lt}
use Rattle.std.proofs.lemmas.Bool.{and_parts, cases_lt, eqb-true}
use Rattle.std.proofs.lemmas.Str.Ascii.{IsAscii-cons, IsAscii-nil}
use borrow.Author.Tests.{ltb-true}
use Rattle.hex.specs.Hex.{encode_upper, encode_with, upper_digits}
use Rattle.std.specs.Str.{IsAscii}

-- whether the table has both digits of each byte below n
abbrev digits_below : List ℕ → ℕ → Bool
digits_below table zero = true
digits_below table (suc n) =
    slice_index table (2 * n) == slice_index upper_digits (n / 16) && (slice_index table (2 * n + 1) == slice_index upper_digits (n % 16) && digits_below table n)

digits_at : (table : List ℕ) (n k : ℕ) → digits_below table n ≡ true → k < n
    → (slice_index table (2 * k) ≡ slice_index upper_digits (k / 16)) × (slice_index table (2 * k + 1) ≡ slice_index upper_digits (k % 16))
digits_at table zero k all lt = absurd (omega arith)
digits_at table (suc n) k all lt =
    let parts = and_parts (slice_index table (2 * n) == slice_index upper_digits (n / 16)) _ all in
    let trailing = and_parts (slice_index table (2 * n + 1) == slice_index upper_digits (n % 16)) (digits_below table n) parts.1 in
    elim (cases_lt k n) [
      | inl below ↦ digits_at table n k trailing.1 below
      | inr top ↦
          let e : k ≡ n = omega arith in
          rw e (eqb-true _ _ parts.0, eqb-true _ _ trailing.0)
    ]

pub two_digits : (table : List ℕ) (byte : ℕ) → byte < 256 → digits_below table 256 ≡ true → slice_index table (2 * byte) ∷ slice_index table (2 * byte + 1) ∷ [] ≡ encode_upper (byte ∷ [])
unfolding encode_with
two_digits table byte lt all =
    let both = digits_at table 256 byte all lt in
    rw (both.0, both.1) refl

-- the digits in a text of one byte
pub high_digit : (byte : ℕ) (text : List ℕ) → text ≡ encode_upper (byte ∷ []) → slice_index text 0 ≡ slice_index upper_digits (byte / 16)
unfolding encode_with
high_digit byte text e = ap (λ (t : List ℕ). slice_index t 0) e

pub low_digit : (byte : ℕ) (text : List ℕ) → text ≡ encode_upper (byte ∷ []) → slice_index text 1 ≡ slice_index upper_digits (byte % 16)
unfolding encode_with
low_digit byte text e = ap (λ (t : List ℕ). slice_index t 1) e

abbrev pub all_ascii : List ℕ → Bool
all_ascii [] = true
all_ascii (x ∷ xs) = nat_lt x 128 && all_ascii xs

pub ascii_from : (xs : List ℕ) → all_ascii xs ≡ true → IsAscii xs
ascii_from [] all = IsAscii-nil
ascii_from (x ∷ xs) all =
    let parts = and_parts (nat_lt x 128) (all_ascii xs) all in
    IsAscii-cons x xs (ltb-true x 128 parts.0) (ascii_from xs parts.1)

pub digits_ascii : IsAscii upper_digits
digits_ascii = ascii_from upper_digits refl
