-- Binary coded decimals: two digits in each byte, the higher one in the upper half (PA00P015, BCD packed).
use Rattle.std.specs.Prelude.{ℕ, ◌+◌, ◌*◌, ◌/◌, ◌%◌, ◌^◌, ◌≤◌, ◌&&◌, nat_le, Bool, List, [], ◌∷◌, length}
use Rattle.std.specs.List.{All}

-- both halves of the byte are decimal digits
abbrev pub IsDigitPair : ℕ → Type 0
IsDigitPair byte = (byte / 16 ≤ 9) × (byte % 16 ≤ 9)

-- the same as a test
abbrev pub is_digit_pair : ℕ → Bool
is_digit_pair byte = nat_le (byte / 16) 9 && nat_le (byte % 16) 9

-- each byte is two digits
abbrev pub AreDigits : List ℕ → Type 0
AreDigits = All IsDigitPair

-- the number of a byte's two digits
abbrev pub pair_number : ℕ → ℕ
pair_number byte = byte / 16 * 10 + byte % 16

-- each byte's two digits count a hundred to the power of the bytes after it
abbrev pub number_of : List ℕ → ℕ
number_of [] = 0
number_of (byte ∷ rest) = pair_number byte * 100 ^ length rest + number_of rest
