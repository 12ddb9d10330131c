-- A side that is read on after refused messages hears the open cut of its bytes.
use Rattle.std.specs.Prelude.{◌≡◌, ℕ, List, [], ◌∷◌, ◌++◌, length}
use Rattle.zvt_grammar.specs.Reading.{Reading, AreBytes}
use Rattle.zvt_grammar.specs.declared.why.Why.{Why}
use Rattle.zvt_stream.specs.Apdus.{AliveIn, IsRefusedIn}
use Rattle.zvt_stream.specs.OpenReading.{OpenCutIn, OpenItem, read, unread}
use Rattle.zvt_trace.specs.Emitting.{PieceEmits}
use Rattle.zvt_trace.specs.Trace.{Side, running, stopped}
use Rattle.zvt_trace.specs.TraceEvent.{At, TraceEvent}
use Rattle.zvt_trace.specs.TraceEvent as trace_event
use Rattle.zvt_trace.specs.declared.direction.Direction.{Direction}
use Rattle.zvt_trace.specs.declared.listener.Scope.{Scope}
use Rattle.zvt_trace.specs.declared.listener.Scope.TheVariants.{OneMessage}

-- ---- one side of a line

-- a piece of the side in a line of the trace
abbrev pub Piece : Type 0
Piece = ℕ × List ℕ

abbrev pub bytes_in : List Piece → List ℕ
bytes_in [] = []
bytes_in (piece ∷ pieces) = piece.1 ++ bytes_in pieces

-- the events of the pieces, one after another
abbrev pub PiecesEmit : Reading → Scope → Direction → Side → List Piece → List At → Side → Type 0
PiecesEmit r scope from side [] events after = (events ≡ []) × (after ≡ side)
PiecesEmit r scope from side (piece ∷ pieces) events after =
    (own : List At) × (later : List At) × (middle : Side) × PieceEmits r scope piece.0 from side piece.1 own middle × PiecesEmit r scope from middle pieces later after × (events ≡ own ++ later)

-- ---- what it hears, in whichever lines

-- A line whose piece is skipped adds nothing.
abbrev pub with_fact : TraceEvent → List TraceEvent → List TraceEvent
with_fact (trace_event.message from m) facts = trace_event.message from m ∷ facts
with_fact (trace_event.refused from before byte why) facts = trace_event.refused from before byte why ∷ facts
with_fact (trace_event.unread from) facts = facts
with_fact (trace_event.resumed from size) facts = trace_event.resumed from size ∷ facts
with_fact (trace_event.cut_off from bytes) facts = trace_event.cut_off from bytes ∷ facts
with_fact trace_event.lost facts = trace_event.lost ∷ facts

abbrev pub facts_of : List At → List TraceEvent
facts_of [] = []
facts_of (event ∷ events) = with_fact event.trace_event (facts_of events)

-- a message; or a refusal and, after the last byte of the frame, that reading resumes
abbrev pub item_facts : Direction → List OpenItem → List TraceEvent
item_facts from [] = []
item_facts from (read m ∷ items) = trace_event.message from m ∷ item_facts from items
item_facts from (unread high low size before byte why ∷ items) = trace_event.refused from before byte why ∷ trace_event.resumed from size ∷ item_facts from items

-- of the bytes after the items: nothing, or a refusal
pub data RestFacts (r : Reading) (from : Direction) (rest : List ℕ) (facts : List TraceEvent) : Type 0 where
  begun : AliveIn r rest → facts ≡ [] → RestFacts r from rest facts
  refused : (before later : List ℕ) (byte : ℕ) (why : Why) → IsRefusedIn r rest (length before) why → rest ≡ before ++ byte ∷ later → facts ≡ trace_event.refused from before byte why ∷ [] → RestFacts r from rest facts

-- The events report the open cut of the bytes.
pub record HearsCut (r : Reading) (from : Direction) (bytes : List ℕ) (events : List At) : Type 0 where
  pub items : List OpenItem
  pub rest : List ℕ
  pub cut : OpenCutIn r bytes items rest
  pub last : List TraceEvent
  pub of_rest : RestFacts r from rest last
  pub is_all : facts_of events ≡ item_facts from items ++ last

-- However the bytes of a side are cut into pieces, the side hears their open cut, and never stops.
abbrev pub OpenSidesHearCuts : Type 0
OpenSidesHearCuts = (r : Reading) (from : Direction) (pieces : List Piece) (events : List At) (after : Side)
    → AreBytes (bytes_in pieces) → PiecesEmit r OneMessage from (running []) pieces events after → HearsCut r from (bytes_in pieces) events × (after ≡ stopped → ⊥)
