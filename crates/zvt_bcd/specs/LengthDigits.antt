-- Lengths in decimal digits, one in each byte: F0 to F9 (PA00P015, LLVAR and LLLVAR).
use Rattle.std.specs.Prelude.{◌≡◌, ℕ, ◌+◌, ◌*◌, ◌-◌, ◌≤◌, nat_le, ◌&&◌, if◌then◌else◌, Option, Some, None, List, [], ◌∷◌, length}

-- what one byte says
abbrev pub ll_digit_of : ℕ → Option ℕ
ll_digit_of byte = if nat_le 0xF0 byte && nat_le byte 0xF9 then Some (byte - 0xF0) else None

-- each byte is a digit
abbrev pub AreLengthDigits : List ℕ → Type 0
AreLengthDigits [] = Unit {0}
AreLengthDigits (x ∷ xs) = (0xF0 ≤ x) × (x ≤ 0xF9) × AreLengthDigits xs

-- the number that digits go on to spell, after a number that stands
abbrev pub counted : ℕ → List ℕ → ℕ
counted before [] = before
counted before (x ∷ xs) = counted (10 * before + (x - 0xF0)) xs

-- a length of n in that many digits
abbrev pub IsCount : (digits n : ℕ) → List ℕ → Type 0
IsCount digits n size = (length size ≡ digits) × AreLengthDigits size × (counted 0 size ≡ n)
