-- The numbers that a terminal named for a payment.
use Rattle.std.specs.Prelude.{ℕ, List, [], ◌∷◌, ◌++◌, codes, Option, Some, None}
use Rattle.hex.specs.Hex.{encode_upper}
use Rattle.zvt_text.specs.Numbers.{numbers_text}

-- each after a space
abbrev pub named_text : (trace : Option ℕ) → (receipt : Option (List ℕ)) → List ℕ
named_text None None = []
named_text None (Some receipt) = codes " receipt " ++ encode_upper receipt
named_text (Some trace) receipt = 32 ∷ numbers_text trace receipt
