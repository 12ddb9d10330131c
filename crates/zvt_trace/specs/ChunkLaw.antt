-- The events of the chunks of a line, and of the trace that spells them.
use Rattle.std.specs.Prelude.{⊤, ◌≡◌, ℕ, ◌+◌, List, [], ◌∷◌, ◌++◌}
use Rattle.std.specs.Str.Lines.{lines}
use Rattle.hex.specs.Hex.{IsBytes, encode_upper}
use Rattle.zvt_grammar.specs.Reading.{Reading}
use Rattle.zvt_trace.specs.Emitting.{LineEmits, LinesEmit}
use Rattle.zvt_trace.specs.Meanings.{Meaning, lost, piece}
use Rattle.zvt_trace.specs.Trace.{Sides}
use Rattle.zvt_trace.specs.TraceEvent.{At}
use Rattle.zvt_trace.specs.declared.direction.Direction.{Direction}
use Rattle.zvt_trace.specs.declared.direction.Direction.TheVariants.{FromTill, FromTerminal}
use Rattle.zvt_trace.specs.declared.listener.Scope.{Scope}

-- a chunk of a line: bytes that a side sent at once, or the end of the line
pub data Chunk : Type 0 where
  sent : (from : Direction) → (bytes : List ℕ) → Chunk
  ended : Chunk

abbrev pub meaning_in : Chunk → Meaning
meaning_in (sent from bytes) = piece from bytes
meaning_in ended = lost

-- ---- the trace

abbrev pub sign_of : Direction → ℕ
sign_of FromTill = 62
sign_of FromTerminal = 60

-- the line of a trace that spells a chunk, without its line feed
abbrev pub spelled_line : Chunk → List ℕ
spelled_line (sent from bytes) = sign_of from ∷ 32 ∷ encode_upper bytes
spelled_line ended = 33 ∷ []

abbrev pub spelled_trace : List Chunk → List ℕ
spelled_trace [] = []
spelled_trace (chunk ∷ chunks) = spelled_line chunk ++ 10 ∷ spelled_trace chunks

abbrev pub HasBytes : Chunk → Type 0
HasBytes (sent from bytes) = IsBytes bytes
HasBytes ended = ⊤

abbrev pub HaveBytes : List Chunk → Type 0
HaveBytes [] = ⊤
HaveBytes (chunk ∷ chunks) = HasBytes chunk × HaveBytes chunks

-- ---- the chunks

-- a chunk, after that many others, and those after it
pub record OneChunk (r : Reading) (scope : Scope) (count : ℕ) (sides : Sides) (chunk : Chunk) (Others : Sides → List At → Type 0) (events : List At) : Type 0 where
  pub own : List At
  pub rest : List At
  pub middle : Sides
  pub emits : LineEmits r scope (count + 1) (meaning_in chunk) sides own middle
  pub others : Others middle rest
  pub is_all : events ≡ own ++ rest

-- chunks taken raw, one after another
abbrev pub ChunksEmit : Reading → Scope → ℕ → Sides → List Chunk → List At → Sides → Type 0
ChunksEmit r scope count sides [] events after = (events ≡ []) × (after ≡ sides)
ChunksEmit r scope count sides (chunk ∷ chunks) events after = OneChunk r scope count sides chunk (λ middle rest. ChunksEmit r scope (count + 1) middle chunks rest after) events

-- Chunks taken raw have the same events, at the same numbers, as the lines of the trace that spells them.
abbrev pub ChunksAreLines : Type 0
ChunksAreLines = (r : Reading) (scope : Scope) (count : ℕ) (sides : Sides) (chunks : List Chunk) (events : List At) (after : Sides)
    → HaveBytes chunks → ChunksEmit r scope count sides chunks events after → LinesEmit r scope count sides (lines (spelled_trace chunks)) events after
