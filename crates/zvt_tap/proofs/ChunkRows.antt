-- Worked rows: what the definitions say of a line whose till sends 06 00 00 in two chunks, and whose terminal answers 80 00 00.
use Rattle.std.proofs.Common.{◌≡◌, List, [], ◌∷◌, ◌++◌, Some, refl}
use Rattle.std.specs.Prelude.{codes}
use Rattle.hex.specs.Hex.{encode_with}
use Rattle.zvt_trace.specs.declared.direction.Direction.TheVariants.{FromTerminal, FromTill}
use Rattle.zvt_tap.specs.Chunks.{Chunk, Moves, bytes_along, chunk, sides, trace_text}

abbrev order : List Chunk
order = chunk FromTill (6 ∷ []) ∷ chunk FromTill (0 ∷ 0 ∷ []) ∷ chunk FromTerminal (128 ∷ 0 ∷ 0 ∷ []) ∷ []

-- each side's bytes, in order
till_bytes : bytes_along FromTill order ≡ 6 ∷ 0 ∷ 0 ∷ []
till_bytes = refl

terminal_bytes : bytes_along FromTerminal order ≡ 128 ∷ 0 ∷ 0 ∷ []
terminal_bytes = refl

-- the trace has a line for each chunk, in the order in which they were read
traced : trace_text order ≡ codes "> 06" ++ 10 ∷ [] ++ codes "> 0000" ++ 10 ∷ [] ++ codes "< 800000" ++ 10 ∷ []
traced = unfold encode_with in refl

-- both sides were read to their end, and each has what the other sent
passed : Moves order order (sides (Some (6 ∷ 0 ∷ 0 ∷ [])) (Some (128 ∷ 0 ∷ 0 ∷ [])) (Some []) (Some [])) (sides (Some []) (Some []) (Some (6 ∷ 0 ∷ 0 ∷ [])) (Some (128 ∷ 0 ∷ 0 ∷ [])))
passed = record { till = refl; terminal = refl; to_terminal = refl; to_till = refl }
