-- The control bytes at the start of a message.
use Rattle.std.specs.Prelude.{ℕ, List, [], ◌∷◌}
use Rattle.zvt_stream.specs.declared.head.Head.{Head}
use Rattle.zvt_stream.specs.declared.head.Head.TheVariants.{Empty, One, Two}

-- The control bytes of a message that starts with the bytes, as far as they have arrived.
abbrev pub head_of : List ℕ → Head
head_of [] = Empty
head_of (first ∷ []) = One first
head_of (first ∷ second ∷ more) = Two first second
