-- The events of a trace, with their lines.
use Rattle.std.specs.Prelude.{◌≡◌, ℕ, List, [], ◌∷◌, ◌++◌}
use Rattle.std.specs.List.{sum_by}
use Rattle.zvt_grammar.specs.declared.why.Why.{Why}
use Rattle.zvt_grammar.specs.Lengths.{reading_of}
use Rattle.zvt_apdu.specs.Grammar.{Spells}
use Rattle.zvt_apdu.specs.Message.{Message}
use Rattle.zvt_trace.specs.declared.direction.Direction.{Direction}
use Rattle.zvt_trace.specs.declared.fault.Tally.{Tally}
use Rattle.zvt_stream.specs.Head.{head_of}
use Rattle.zvt_stream.specs.declared.head.Head.{Head}
use Rattle.zvt_trace.specs.declared.event.TraceEvent as code
use Rattle.zvt_trace.specs.declared.event.TraceEvent.TheVariants as code_event

-- a complete message; a refusal: the bytes of a message before the first after which none can follow, and that byte; an
-- unread piece after a refusal; the end of a refused message of this size, where reading resumes; the end of the line
-- after these bytes of a message; or the loss of the connection
pub data TraceEvent : Type 0 where
  message : (from : Direction) → (message : Message) → TraceEvent
  refused : (from : Direction) → (before : List ℕ) → (byte : ℕ) → (why : Why) → TraceEvent
  unread : (from : Direction) → TraceEvent
  resumed : (from : Direction) → (size : ℕ) → TraceEvent
  cut_off : (from : Direction) → (bytes : List ℕ) → TraceEvent
  lost : TraceEvent

-- the control bytes of a refused message, as far as they have arrived
abbrev pub refused_head : (before : List ℕ) → (byte : ℕ) → Head
refused_head before byte = head_of (before ++ byte ∷ [])

-- an event at a line of the trace, which is counted from 1
pub record At : Type 0 where
  pub line : ℕ
  pub trace_event : TraceEvent

abbrev pub on : ℕ → TraceEvent → At
on line trace_event = record { line = line; trace_event = trace_event }

-- ---- what the code hands on

abbrev pub event_of : code.TraceEvent → TraceEvent
event_of (code_event.Message from apdu bytes lengths) = message from apdu
event_of (code_event.Refused from refusal) = refused from refusal.before.now refusal.byte refusal.why
event_of (code_event.Unread from) = unread from
event_of (code_event.Resumed from size) = resumed from size
event_of (code_event.CutOff from bytes) = cut_off from bytes.now
event_of code_event.Lost = lost

-- the bytes of a message are a spelling of it by the reading of its event: by the shortest lengths its one spelling
abbrev pub HasItsBytes : code.TraceEvent → Type 0
HasItsBytes (code_event.Message from apdu bytes lengths) = Spells (reading_of lengths) apdu bytes.now
HasItsBytes (code_event.Refused from refusal) = Unit {0}
HasItsBytes (code_event.Unread from) = Unit {0}
HasItsBytes (code_event.Resumed from size) = Unit {0}
HasItsBytes (code_event.CutOff from bytes) = Unit {0}
HasItsBytes code_event.Lost = Unit {0}

-- ---- counts

abbrev pub message_count : TraceEvent → ℕ
message_count (message from m) = 1
message_count (refused from before byte why) = 0
message_count (unread from) = 0
message_count (resumed from size) = 0
message_count (cut_off from bytes) = 0
message_count lost = 0

abbrev pub bad_count : TraceEvent → ℕ
bad_count (message from m) = 0
bad_count (refused from before byte why) = 1
bad_count (unread from) = 0
bad_count (resumed from size) = 0
bad_count (cut_off from bytes) = 1
bad_count lost = 0

abbrev pub messages_in : List At → ℕ
messages_in events = sum_by (λ (event : At). message_count event.trace_event) events

abbrev pub bad_in : List At → ℕ
bad_in events = sum_by (λ (event : At). bad_count event.trace_event) events

-- the tally has the numbers of complete messages, and of streams that were refused or cut off
pub record Tallies (tally : Tally) (events : List At) : Type 0 where
  pub messages : tally.messages ≡ messages_in events
  pub bad : tally.bad ≡ bad_in events
