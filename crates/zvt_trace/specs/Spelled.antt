-- The digits of a text, and the bytes that they spell.
use Rattle.std.specs.Prelude.{◌≡◌, ⊤, ℕ, ◌+◌, ◌*◌, ◌<◌, IsSome, MatchOption, Option, unwrap_or, Some, None, List, [], ◌∷◌, ◌++◌}
use Rattle.hex.specs.Hex.{hex_digit_value}

-- the value of a digit, and more than 15 for any other character
abbrev pub IsDigit : ℕ → ℕ → Type 0
IsDigit digit value = MatchOption (hex_digit_value digit) (15 < value) (λ is. value ≡ is)

-- each is a digit
abbrev pub AreHex : List ℕ → Type 0
AreHex [] = ⊤
AreHex (digit ∷ rest) = IsSome (hex_digit_value digit) × AreHex rest

-- the value of a digit, and 256 for any other character
abbrev pub worth : (digit : ℕ) → ℕ
worth digit = unwrap_or (hex_digit_value digit) 256

-- a byte of two digits, before the bytes that follow
abbrev pub pair_before : Option ℕ → Option ℕ → Option (List ℕ) → Option (List ℕ)
pair_before None low bytes = None
pair_before (Some h) None bytes = None
pair_before (Some h) (Some l) None = None
pair_before (Some h) (Some l) (Some bytes) = Some ((h * 16 + l) ∷ bytes)

-- the bytes that pairs of digits spell
unfoldable pub spells : List ℕ → Option (List ℕ)
spells [] = Some []
spells (digit ∷ []) = None
spells (high ∷ low ∷ rest) = pair_before (hex_digit_value high) (hex_digit_value low) (spells rest)

-- bytes that come before others
abbrev pub after_bytes : List ℕ → Option (List ℕ) → Option (List ℕ)
after_bytes done None = None
after_bytes done (Some bytes) = Some (done ++ bytes)
