-- How a trace spells a chunk, and the text of a line that can't be read.
use Rattle.std.specs.Prelude.{ℕ, List, [], ◌∷◌, ◌++◌, codes}
use Rattle.hex.specs.Hex.{encode_upper}
use Rattle.zvt_trace.specs.declared.direction.Direction.{Direction}
use Rattle.zvt_trace.specs.declared.direction.Direction.TheVariants.{FromTill, FromTerminal}
use Rattle.zvt_trace.specs.declared.fault.TraceLineError.{TraceLineError}
use Rattle.zvt_trace.specs.declared.fault.TraceLineError.TheVariants.{Form, Hex}

abbrev pub direction_text : Direction → List ℕ
direction_text FromTill = codes ">"
direction_text FromTerminal = codes "<"

-- the line of a chunk that this side sent
abbrev pub piece_text : Direction → List ℕ → List ℕ
piece_text from bytes = direction_text from ++ codes " " ++ encode_upper bytes ++ 10 ∷ []

-- what is wrong with a line of a trace, and what one looks like
abbrev pub what_text : TraceLineError → List ℕ
what_text Form = codes "expected '>' or '<' and hexadecimal digits, '!' alone, or a comment that begins with '#'"
what_text Hex = codes "expected two hexadecimal digits for each byte after '>' or '<', with or without spaces"
