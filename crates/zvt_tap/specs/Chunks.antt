-- The chunks that pass between a till and its terminal.
use Rattle.std.specs.Prelude.{◌≡◌, ℕ, List, [], ◌∷◌, ◌++◌, Option, IfSome}
use Rattle.std.specs.Io.KnownBytes.{Appends, Consumes}
use Rattle.zvt_trace.specs.Lines.{piece_text}
use Rattle.zvt_trace.specs.declared.direction.Direction.{Direction}
use Rattle.zvt_trace.specs.declared.direction.Direction.TheVariants.{FromTerminal, FromTill}

-- ---- chunks

-- what one read brought, and from which side
pub record Chunk : Type 0 where
  pub from : Direction
  pub bytes : List ℕ

abbrev pub chunk : Direction → List ℕ → Chunk
chunk from bytes = record { from = from; bytes = bytes }

-- these bytes, where both sides are one
abbrev pub along : (from other : Direction) → List ℕ → List ℕ
along FromTill FromTill bytes = bytes
along FromTill FromTerminal bytes = []
along FromTerminal FromTill bytes = []
along FromTerminal FromTerminal bytes = bytes

-- all bytes of the chunks that come from this side
abbrev pub bytes_along : Direction → List Chunk → List ℕ
bytes_along from [] = []
bytes_along from (one ∷ more) = along from one.from one.bytes ++ bytes_along from more

-- the lines of the chunks in a trace
abbrev pub trace_text : List Chunk → List ℕ
trace_text [] = []
trace_text (one ∷ more) = piece_text one.from one.bytes ++ trace_text more

-- ---- both sides

-- what is still to come of each side, and what was written to each
pub record Sides : Type 0 where
  pub till : Option (List ℕ)
  pub terminal : Option (List ℕ)
  pub to_terminal : Option (List ℕ)
  pub to_till : Option (List ℕ)

abbrev pub sides : (till terminal to_terminal to_till : Option (List ℕ)) → Sides
sides till terminal to_terminal to_till = record { till = till; terminal = terminal; to_terminal = to_terminal; to_till = to_till }

-- what is still to come from this side
abbrev pub coming : Direction → Sides → Option (List ℕ)
coming FromTill both = both.till
coming FromTerminal both = both.terminal

-- What a side sent is what was read of it, and what was written goes to the other side.
pub record Moves (read written : List Chunk) (old new : Sides) : Type 0 where
  pub till : Consumes old.till new.till (bytes_along FromTill read)
  pub terminal : Consumes old.terminal new.terminal (bytes_along FromTerminal read)
  pub to_terminal : Appends old.to_terminal new.to_terminal (bytes_along FromTill written)
  pub to_till : Appends old.to_till new.to_till (bytes_along FromTerminal written)

-- nothing is left of what was to come
abbrev pub IsAll : Option (List ℕ) → List ℕ → Type 0
IsAll left bytes = IfSome left (λ all. all ≡ bytes)
