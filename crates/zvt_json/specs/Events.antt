-- The JSON line of an event of a trace.
use Rattle.std.specs.Prelude.{◌≡◌, ℕ, true, List, ◌++◌, length, codes}
use Rattle.serde_json.specs.Data.{Data, string, boolean, object, Members, no_members, member}
use Rattle.zvt_grammar.specs.Names.{why_name}
use Rattle.zvt_grammar.specs.Reading.{shortest}
use Rattle.zvt_grammar.specs.declared.why.Why.{Why}
use Rattle.zvt_apdu.specs.Grammar.{Spells}
use Rattle.zvt_trace.specs.TraceEvent.{At, TraceEvent, message, refused, unread, resumed, cut_off, lost}
use Rattle.zvt_trace.specs.declared.direction.Direction.{Direction}
use Rattle.zvt_json.specs.Strings.{byte_value, count_value, line_text}
use Rattle.zvt_json.specs.Messages.{message_value, side_name}

-- the event of a side in a line
abbrev pub side_value : Direction → (line : ℕ) → Members → Data
side_value from line later = object (member (codes "from") (string (side_name from)) (member (codes "line") (count_value line) later))

abbrev pub reason_value : (byte place : ℕ) → Why → Data
reason_value byte place why = object (member (codes "byte") (byte_value byte) (member (codes "place") (count_value place) (member (codes "reason") (string (why_name why)) no_members)))

abbrev pub refused_value : Direction → (line byte place : ℕ) → Why → Data
refused_value from line byte place why = side_value from line (member (codes "refused") (reason_value byte place why) no_members)

-- a piece that is not read, after a refusal
abbrev pub stopped_value : Direction → (line : ℕ) → Data
stopped_value from line = side_value from line (member (codes "stopped") (boolean true) no_members)

-- the side is read on after a refused message of this size
abbrev pub resumed_value : Direction → (line size : ℕ) → Data
resumed_value from line size = side_value from line (member (codes "resumed") (count_value size) no_members)

abbrev pub truncated_value : Direction → (line have : ℕ) → Data
truncated_value from line have = side_value from line (member (codes "truncated") (object (member (codes "after") (count_value have) no_members)) no_members)

abbrev pub lost_value : (line : ℕ) → Data
lost_value line = object (member (codes "line") (count_value line) (member (codes "lost") (boolean true) no_members))

-- the size of a message with the shortest lengths, and 0 for another event
abbrev pub HasSize : (size : ℕ) → TraceEvent → Type 0
HasSize size (message from m) = (bytes : List ℕ) × Spells shortest m bytes × (size ≡ length bytes)
HasSize size (refused from before byte why) = size ≡ 0
HasSize size (unread from) = size ≡ 0
HasSize size (resumed from skipped) = size ≡ 0
HasSize size (cut_off from bytes) = size ≡ 0
HasSize size lost = size ≡ 0

-- the value of an event in a line; the size of a message is the size of its encoding with the shortest lengths
abbrev pub EventValue : (line : ℕ) → TraceEvent → Data → Type 0
EventValue line (message from m) value = (bytes : List ℕ) × Spells shortest m bytes × (value ≡ message_value from line (length bytes) m)
EventValue line (refused from before byte why) value = value ≡ refused_value from line byte (length before) why
EventValue line (unread from) value = value ≡ stopped_value from line
EventValue line (resumed from size) value = value ≡ resumed_value from line size
EventValue line (cut_off from bytes) value = value ≡ truncated_value from line (length bytes)
EventValue line lost value = value ≡ lost_value line

-- the text is the value's, in one line
abbrev pub EventLine : At → List ℕ → Type 0
EventLine event text = (value : Data) × EventValue event.line event.trace_event value × (text ≡ line_text value)

-- the text grew by the line of the event
pub record AddsLine (event : At) (old new : List ℕ) : Type 0 where
  pub one : List ℕ
  pub says : EventLine event one
  pub grown : new ≡ old ++ one
