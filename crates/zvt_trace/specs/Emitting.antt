-- The events of a piece, of a line, and of a whole trace.
use Rattle.std.specs.Prelude.{⊤, ◌≡◌, ◌⊎◌, ◌≤◌, ℕ, ◌+◌, ◌-◌, List, [], ◌∷◌, ◌++◌, length, map, slice_index, take, Ok, Err}
use Rattle.std.specs.List.{concat}
use Rattle.zvt_grammar.specs.Cuts.{Cut}
use Rattle.zvt_grammar.specs.Reading.{Reading}
use Rattle.zvt_grammar.specs.declared.why.Why.{Why}
use Rattle.zvt_apdu.specs.Grammar.{Spells}
use Rattle.zvt_apdu.specs.Message.{Message}
use Rattle.zvt_trace.specs.Meanings.{Meaning, lost, meaning_of, piece, comment}
use Rattle.zvt_trace.specs.TraceEvent.{At, on}
use Rattle.zvt_trace.specs.TraceEvent as trace_event
use Rattle.zvt_trace.specs.Resuming.{IsWithin, refused_size, resuming_events, side_refused, side_skipping, skipping_events}
use Rattle.zvt_trace.specs.Trace.{Arrives, Ending, Side, Sides, begun, new_line, refused, running, side_of, skipping, stopped}
use Rattle.zvt_trace.specs.declared.direction.Direction.{Direction}
use Rattle.zvt_trace.specs.declared.direction.Direction.TheVariants.{FromTill, FromTerminal}
use Rattle.zvt_trace.specs.declared.fault.TraceLineError.{TraceLineError}
use Rattle.zvt_trace.specs.declared.listener.Scope.{Scope}
use Rattle.zvt_trace.specs.declared.listener.Scope.TheVariants.{OneMessage, OneSide, WholeLine}

-- ---- one side of the line

abbrev pub messages_emitted : ℕ → Direction → List Message → List At
messages_emitted line from messages = map (λ (message : Message). on line (trace_event.message from message)) messages

-- the refusal of a message at this place of its bytes
abbrev pub refusal_event : ℕ → Direction → List ℕ → (place : ℕ) → Why → At
refusal_event line from bytes place why = on line (trace_event.refused from (take place bytes) (slice_index bytes place) why)

abbrev pub ending_events : Scope → ℕ → Direction → List ℕ → Ending → List At
ending_events scope line from rest begun = []
ending_events scope line from rest (refused place why) =
    refusal_event line from rest place why ∷ resuming_events line from (refused_size scope rest place) (length rest)

abbrev pub side_after : Scope → (bytes rest : List ℕ) → Ending → Side
side_after scope bytes rest begun = running bytes
side_after scope bytes rest (refused place why) = side_refused (refused_size scope rest place) (length rest)

-- what is left has no byte after the end of a refused message
abbrev pub EndsWithin : Scope → List ℕ → Ending → Type 0
EndsWithin scope rest begun = ⊤
EndsWithin scope rest (refused place why) = IsWithin (refused_size scope rest place) (length rest)

-- The events of a part: the messages that arrive with it, and the refusal after them.
pub record Emits (r : Reading) (scope : Scope) (line : ℕ) (from : Direction) (before bytes : List ℕ) (events : List At) (after : Side) : Type 0 where
  pub messages : List Message
  pub rest : List ℕ
  pub ending : Ending
  pub arrives : Arrives r before bytes messages rest ending
  pub within : EndsWithin scope rest ending
  pub is_all : events ≡ messages_emitted line from messages ++ ending_events scope line from rest ending
  pub is_after : after ≡ side_after scope (before ++ bytes) rest ending

abbrev pub PartEmits : Reading → Scope → ℕ → Direction → Side → List ℕ → List At → Side → Type 0
PartEmits r scope line from (running before) bytes events after = Emits r scope line from before bytes events after
PartEmits r scope line from (skipping size left) bytes events after =
    (length bytes ≤ left) × (events ≡ skipping_events line from size (left - length bytes)) × (after ≡ side_skipping size (left - length bytes))
PartEmits r scope line from stopped bytes events after = (events ≡ []) × (after ≡ stopped)

-- ---- parts, one after another

pub record OnePart (r : Reading) (scope : Scope) (line : ℕ) (from : Direction) (side : Side) (part : List ℕ) (Others : Side → List At → Type 0) (events : List At) : Type 0 where
  pub own : List At
  pub later : List At
  pub middle : Side
  pub emits : PartEmits r scope line from side part own middle
  pub others : Others middle later
  pub is_all : events ≡ own ++ later

abbrev pub PartsEmit : Reading → Scope → ℕ → Direction → Side → List (List ℕ) → List At → Side → Type 0
PartsEmit r scope line from side [] events after = (events ≡ []) × (after ≡ side)
PartsEmit r scope line from side (part ∷ parts) events after = OnePart r scope line from side part (λ middle later. PartsEmit r scope line from middle parts later after) events

-- The bytes are cut into parts, at the ends of refused messages.
pub record Passes (r : Reading) (scope : Scope) (line : ℕ) (from : Direction) (side : Side) (bytes : List ℕ) (events : List At) (after : Side) : Type 0 where
  pub parts : List (List ℕ)
  pub cut : bytes ≡ concat parts
  pub emit : PartsEmit r scope line from side parts events after

-- the event of an unread piece
abbrev pub or_unread : ℕ → Direction → List At → List At
or_unread line from [] = on line (trace_event.unread from) ∷ []
or_unread line from (event ∷ events) = event ∷ events

abbrev pub told : ℕ → Direction → Side → List At → List At
told line from (running bytes) events = events
told line from (skipping size left) events = or_unread line from events
told line from stopped events = or_unread line from events

-- The events of a piece: what its bytes say, or that it is not read.
pub record PieceEmits (r : Reading) (scope : Scope) (line : ℕ) (from : Direction) (side : Side) (bytes : List ℕ) (events : List At) (after : Side) : Type 0 where
  pub own : List At
  pub passes : Passes r scope line from side bytes own after
  pub is_all : events ≡ told line from side own

abbrev pub cut_off_event : ℕ → Direction → List ℕ → List At
cut_off_event line from [] = []
cut_off_event line from (byte ∷ bytes) = on line (trace_event.cut_off from (byte ∷ bytes)) ∷ []

-- the end of the line cuts off the unfinished message of a side
abbrev pub SideEnds : Reading → ℕ → Direction → Side → List At → Type 0
SideEnds r line from (running bytes) events = (messages : List Message) × (rest : List ℕ) × Cut (Spells r) bytes messages rest × (events ≡ cut_off_event line from rest)
SideEnds r line from (skipping size left) events = events ≡ []
SideEnds r line from stopped events = events ≡ []

-- ---- both sides

abbrev pub other : Direction → Direction
other FromTill = FromTerminal
other FromTerminal = FromTill

-- this side and the other one
abbrev pub both_sides : Direction → Side → Side → Sides
both_sides FromTill side beside = record { till = side; terminal = beside }
both_sides FromTerminal side beside = record { till = beside; terminal = side }

-- The other side after a refusal: unchanged, or stopped, and then its unfinished message is cut off.
abbrev pub Leaves : Reading → Scope → ℕ → Direction → (side beside : Side) → List At → Side → Type 0
Leaves r OneSide line from side beside events after = (events ≡ []) × (after ≡ beside)
Leaves r OneMessage line from side beside events after = (events ≡ []) × (after ≡ beside)
Leaves r WholeLine line from (running bytes) beside events after = (events ≡ []) × (after ≡ beside)
Leaves r WholeLine line from (skipping size left) beside events after = (events ≡ []) × (after ≡ beside)
Leaves r WholeLine line from stopped beside events after = SideEnds r line (other from) beside events × (after ≡ stopped)

-- a piece of this side, and its effect on the other
pub record EmitsBeside (r : Reading) (scope : Scope) (line : ℕ) (from : Direction) (side beside : Side) (bytes : List ℕ) (events : List At) (after beside_after : Side) : Type 0 where
  pub own : List At
  pub others : List At
  pub emits : PieceEmits r scope line from side bytes own after
  pub leaves : Leaves r scope line from after beside others beside_after
  pub is_all : events ≡ own ++ others

-- the end of the line, first for the till and then for the terminal
pub record LineEnds (r : Reading) (line : ℕ) (sides : Sides) (events : List At) : Type 0 where
  pub till : List At
  pub terminal : List At
  pub till_ends : SideEnds r line FromTill sides.till till
  pub terminal_ends : SideEnds r line FromTerminal sides.terminal terminal
  pub is_all : events ≡ till ++ terminal

-- ---- one line of the trace

abbrev pub LineEmits : Reading → Scope → ℕ → Meaning → Sides → List At → Sides → Type 0
LineEmits r scope line comment sides events after = (events ≡ []) × (after ≡ sides)
LineEmits r scope line (piece from bytes) sides events after =
    (side : Side) × (beside : Side) × EmitsBeside r scope line from (side_of from sides) (side_of (other from) sides) bytes events side beside × (after ≡ both_sides from side beside)
LineEmits r scope line lost sides events after =
    (ended : List At) × LineEnds r line sides ended × (events ≡ ended ++ on line trace_event.lost ∷ []) × (after ≡ new_line)

-- ---- lines, after that many others

pub record OneMore (r : Reading) (scope : Scope) (count : ℕ) (sides : Sides) (line : List ℕ) (Others : Sides → List At → Type 0) (events : List At) : Type 0 where
  pub meaning : Meaning
  pub own : List At
  pub rest : List At
  pub middle : Sides
  pub means : meaning_of line ≡ Ok meaning
  pub emits : LineEmits r scope (count + 1) meaning sides own middle
  pub others : Others middle rest
  pub is_all : events ≡ own ++ rest

-- valid lines, from one state of both sides to another
abbrev pub LinesEmit : Reading → Scope → ℕ → Sides → List (List ℕ) → List At → Sides → Type 0
LinesEmit r scope count sides [] events after = (events ≡ []) × (after ≡ sides)
LinesEmit r scope count sides (line ∷ lines) events after = OneMore r scope count sides line (λ middle rest. LinesEmit r scope (count + 1) middle lines rest after) events

-- ---- the trace

-- a trace of valid lines: their events, and the messages that its end cuts off
pub record WholeTrace (r : Reading) (scope : Scope) (lines : List (List ℕ)) (events : List At) : Type 0 where
  pub body : List At
  pub after : Sides
  pub last : List At
  pub emit : LinesEmit r scope 0 new_line lines body after
  pub ends : LineEnds r (length lines) after last
  pub is_all : events ≡ body ++ last

-- lines with one that is not valid, counted from 1: the events of the lines before it
pub record BrokenTrace (r : Reading) (scope : Scope) (lines : List (List ℕ)) (number : ℕ) (what : TraceLineError) (events : List At) : Type 0 where
  pub done : List (List ℕ)
  pub line : List ℕ
  pub later : List (List ℕ)
  pub after : Sides
  pub cut : lines ≡ done ++ line ∷ later
  pub emit : LinesEmit r scope 0 new_line done events after
  pub wrong : meaning_of line ≡ Err what
  pub is_number : number ≡ length done + 1

-- ---- a prefix of what a trace emits

pub record PrefixOf (Emit : List At → Type 0) (events : List At) : Type 0 where
  pub all : List At
  pub later : List At
  pub emit : Emit all
  pub is_prefix : all ≡ events ++ later

-- a prefix of a piece, or a line of another kind
abbrev pub Begins : Meaning → Meaning → Type 0
Begins prefix comment = prefix ≡ comment
Begins prefix (piece from bytes) = (first : List ℕ) × (more : List ℕ) × (prefix ≡ piece from first) × (bytes ≡ first ++ more)
Begins prefix lost = prefix ≡ lost

-- a prefix of the events of a prefix of a line with this meaning
pub record MeaningBegins (r : Reading) (scope : Scope) (number : ℕ) (meaning : Meaning) (sides : Sides) (events : List At) : Type 0 where
  pub prefix : Meaning
  pub after : Sides
  pub begins : Begins prefix meaning
  pub emits : PrefixOf (λ all. LineEmits r scope number prefix sides all after) events

abbrev pub LineBegins : Reading → Scope → ℕ → List ℕ → Sides → List At → Type 0
LineBegins r scope number line sides events = (meaning : Meaning) × (meaning_of line ≡ Ok meaning) × MeaningBegins r scope number meaning sides events

-- no event, or the first events of the line
abbrev pub LineSoFar : Reading → Scope → ℕ → List ℕ → Sides → List At → Type 0
LineSoFar r scope number line sides events = (events ≡ []) ⊎ LineBegins r scope number line sides events

-- after some lines, the first events of the next line or of the end of the trace
abbrev pub NextEmits : Reading → Scope → ℕ → List (List ℕ) → Sides → List At → Type 0
NextEmits r scope count [] sides events = LineEnds r count sides events
NextEmits r scope count (line ∷ later) sides events =
    (events ≡ []) ⊎ ((meaning : Meaning) × (prefix : Meaning) × (after : Sides) × (meaning_of line ≡ Ok meaning) × Begins prefix meaning × LineEmits r scope (count + 1) prefix sides events after)

-- the events of some lines, and then the first of the next
pub record Reaches (r : Reading) (scope : Scope) (lines : List (List ℕ)) (events : List At) : Type 0 where
  pub done : List (List ℕ)
  pub later : List (List ℕ)
  pub before : List At
  pub next : List At
  pub after : Sides
  pub cut : lines ≡ done ++ later
  pub emit : LinesEmit r scope 0 new_line done before after
  pub emits : NextEmits r scope (length done) later after next
  pub is_all : events ≡ before ++ next

-- a prefix of that
abbrev pub EventsSoFar : Reading → Scope → List (List ℕ) → List At → Type 0
EventsSoFar r scope lines events = PrefixOf (Reaches r scope lines) events
