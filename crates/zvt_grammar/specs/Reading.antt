-- Bytes, and the two readings of lengths that every grammar has.
use Rattle.std.specs.Prelude.{ℕ, ◌<◌, Bool, true, false, List, [], ◌∷◌}

-- Whether lengths are in their shortest form alone, or in each form that holds them.
pub data Reading : Type 0 where
  shortest : Reading
  padded : Reading

-- The reading that a flag asks for.
abbrev pub reading : Bool → Reading
reading false = shortest
reading true = padded

-- The least size that a longer form of length is for.
abbrev pub least : Reading → ℕ → ℕ
least shortest size = size
least padded size = 0

-- Each is a byte.
abbrev pub AreBytes : List ℕ → Type 0
AreBytes [] = Unit {0}
AreBytes (x ∷ xs) = (x < 256) × AreBytes xs
