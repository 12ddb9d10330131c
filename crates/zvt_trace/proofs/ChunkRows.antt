-- What is read of some chunks, worked out.
use Rattle.std.proofs.Common.{◌≡◌, ◌++◌, [], ◌∷◌, refl}
use Rattle.std.specs.Str.Lines.{lines}
use Rattle.zvt_trace.specs.Chunks.{IsWhole, last_after}

-- nothing is whole, and so is "!\n"; "!\n>" is not, since its last line has begun
nothing_whole : IsWhole []
nothing_whole = refl

line_whole : IsWhole (33 ∷ 10 ∷ [])
line_whole = refl

line_begun : last_after 10 (33 ∷ 10 ∷ 62 ∷ []) ≡ 62
line_begun = refl

-- a carriage return goes with its line feed, though a chunk ends between them
cut_return : lines ((33 ∷ 13 ∷ []) ++ 10 ∷ 33 ∷ []) ≡ (33 ∷ []) ∷ (33 ∷ []) ∷ []
cut_return = refl

-- an empty line is a line as any other
empty_line : lines (33 ∷ 10 ∷ 10 ∷ 33 ∷ 10 ∷ []) ≡ (33 ∷ []) ∷ [] ∷ (33 ∷ []) ∷ []
empty_line = refl
