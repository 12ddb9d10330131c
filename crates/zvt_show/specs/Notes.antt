-- What is said of what is bad in a trace, by all events of the trace.
use Rattle.std.specs.Prelude.{ℕ, zero, suc, ◌-◌, ◌^◌, ◌==◌, min, Bool, true, false, List, [], ◌∷◌, ◌++◌, length, map, codes, if◌then◌else◌}
use Rattle.std.specs.Fmt.{decimal}
use Rattle.std.specs.List.{filter, flat_map, sum_by}
use Rattle.hex.specs.Hex.{encode_upper}
use Rattle.zvt_grammar.specs.Names.{why_name}
use Rattle.zvt_grammar.specs.declared.why.Why.{Why}
use Rattle.zvt_apdu.specs.Kinds.{kind_at}
use Rattle.zvt_apdu.specs.declared.kinds.Kind.{Kind}
use Rattle.zvt_apdu.specs.declared.kinds.Kind.TheVariants as kind
use Rattle.zvt_text.specs.Bytes.{hex_of}
use Rattle.zvt_text.specs.MessageTexts.{kind_name}
use Rattle.zvt_trace.specs.Lines.{direction_text}
use Rattle.zvt_trace.specs.TraceEvent.{At, TraceEvent, messages_in, refused_head}
use Rattle.zvt_trace.specs.TraceEvent as trace_event
use Rattle.zvt_trace.specs.declared.direction.Direction.{Direction}
use Rattle.zvt_trace.specs.declared.direction.Direction.TheVariants.{FromTill, FromTerminal}
use Rattle.zvt_trace.specs.declared.listener.Scope.{Scope}
use Rattle.zvt_trace.specs.declared.listener.Scope.TheVariants.{OneMessage, OneSide, WholeLine}
use Rattle.zvt_stream.specs.Head.{head_of}
use Rattle.zvt_stream.specs.declared.head.Head.{Head}
use Rattle.zvt_stream.specs.declared.head.Head.TheVariants.{Empty, One, Two}

-- ---- numbers of things

-- a count that would grow past the largest number of the program stays there
abbrev pub most : ℕ → ℕ
most n = min n (2 ^ 64 - 1)

-- one line, two lines
abbrev pub counted : ℕ → List ℕ → List ℕ
counted n word = decimal n ++ 32 ∷ word ++ (if n == 1 then [] else codes "s")

-- ---- one thing

-- the control bytes of a message that has no name of its own
abbrev pub control_part : Kind → (high low : ℕ) → List ℕ
control_part kind.Ack high low = []
control_part kind.Nack high low = []
control_part kind.Registration high low = []
control_part kind.Authorisation high low = []
control_part kind.Reversal high low = []
control_part kind.EndOfDay high low = []
control_part kind.AbortOrder high low = []
control_part kind.Status high low = []
control_part kind.Intermediate high low = []
control_part kind.PrintLine high low = []
control_part kind.TextBlock high low = []
control_part kind.Completion high low = []
control_part kind.Abort high low = []
control_part kind.Other high low = 32 ∷ encode_upper (high ∷ low ∷ [])

-- the message that had begun, as far as its control bytes have come
abbrev pub head_name : Head → List ℕ
head_name Empty = codes "a message"
head_name (One high) = codes "a message of " ++ hex_of high
head_name (Two high low) = kind_name (kind_at high low) ++ control_part (kind_at high low) high low

abbrev pub line_text : ℕ → List ℕ
line_text line = codes "zvt: line " ++ decimal line ++ codes " of the trace: "

abbrev pub begun_text : ℕ → Direction → Head → List ℕ
begun_text line from head = line_text line ++ direction_text from ++ 32 ∷ head_name head

abbrev pub place_text : (place byte : ℕ) → List ℕ
place_text place byte = codes " refused at " ++ decimal place ++ codes ", byte " ++ hex_of byte

abbrev pub reason_text : Why → List ℕ
reason_text why = codes ": " ++ why_name why ++ 10 ∷ []

-- of the bytes after the control bytes the fatal one alone is written
abbrev pub refused_note : ℕ → Direction → (before : List ℕ) → (byte : ℕ) → Why → List ℕ
refused_note line from before byte why =
    begun_text line from (refused_head before byte) ++ place_text (length before) byte ++ reason_text why

abbrev pub cut_off_note : ℕ → Direction → Head → (have : ℕ) → List ℕ
cut_off_note line from head have = begun_text line from head ++ codes " cut off after " ++ decimal have ++ 10 ∷ []

abbrev pub event_note : ℕ → TraceEvent → List ℕ
event_note line (trace_event.message from m) = []
event_note line (trace_event.refused from before byte why) = refused_note line from before byte why
event_note line (trace_event.unread from) = []
event_note line (trace_event.resumed from size) = []
event_note line (trace_event.cut_off from bytes) = cut_off_note line from (head_of bytes) (length bytes)
event_note line trace_event.lost = []

abbrev pub note_text : At → List ℕ
note_text event = event_note event.line event.trace_event

-- ---- what is not read

-- What is not read is counted for its own side; for one of them alone where a refusal leaves the whole line unread.
abbrev pub counted_side : Scope → Direction → Direction
counted_side OneMessage from = from
counted_side OneSide from = from
counted_side WholeLine from = FromTill

abbrev pub is_same_side : Direction → Direction → Bool
is_same_side FromTill FromTill = true
is_same_side FromTill FromTerminal = false
is_same_side FromTerminal FromTill = false
is_same_side FromTerminal FromTerminal = true

abbrev pub is_unread : Scope → Direction → TraceEvent → Bool
is_unread scope side (trace_event.message from m) = false
is_unread scope side (trace_event.refused from before byte why) = false
is_unread scope side (trace_event.unread from) = is_same_side side (counted_side scope from)
is_unread scope side (trace_event.resumed from size) = false
is_unread scope side (trace_event.cut_off from bytes) = false
is_unread scope side trace_event.lost = false

-- the lines of the pieces that are not read
abbrev pub unread_lines : Scope → Direction → List At → List ℕ
unread_lines scope side events = map (λ (event : At). event.line) (filter (λ (event : At). is_unread scope side event.trace_event) events)

abbrev pub last_line : List ℕ → ℕ
last_line [] = 0
last_line (line ∷ []) = line
last_line (line ∷ next ∷ lines) = last_line (next ∷ lines)

-- the side, where the other one is read on
abbrev pub side_mark : Scope → Direction → List ℕ
side_mark OneMessage side = codes " of " ++ direction_text side
side_mark OneSide side = codes " of " ++ direction_text side
side_mark WholeLine side = []

abbrev pub unread_count : Scope → Direction → ℕ → List ℕ
unread_count scope side count = codes "zvt: " ++ counted count (codes "line") ++ side_mark scope side

-- how to read on, where a refusal leaves more than its message unread
abbrev pub advice : Scope → List ℕ
advice OneMessage = []
advice OneSide = codes ": 'show', 'audit' and 'receipts' read on with --open"
advice WholeLine = codes ": 'show', 'audit' and 'receipts' read on with --open"

abbrev pub last_text : Scope → ℕ → List ℕ
last_text scope last = codes " not read after that, up to line " ++ decimal last ++ advice scope ++ 10 ∷ []

abbrev pub unread_words : Scope → Direction → (count last : ℕ) → List ℕ
unread_words scope side count last = unread_count scope side count ++ last_text scope last

abbrev pub unread_note : Scope → Direction → (count last : ℕ) → List ℕ
unread_note scope side zero last = []
unread_note scope side (suc n) last = unread_words scope side (suc n) last

abbrev pub unread_text : Scope → Direction → List At → List ℕ
unread_text scope side events = unread_note scope side (most (length (unread_lines scope side events))) (last_line (unread_lines scope side events))

-- of both sides
abbrev pub unread_of : Scope → List At → List ℕ
unread_of scope events = unread_text scope FromTill events ++ unread_text scope FromTerminal events

-- ---- from the line's beginning to its loss

-- the events up to the first loss, and from each loss to the next or to the end
pub record Lives : Type 0 where
  pub first : List At
  pub later : List (List At)

abbrev begins_with : At → Lives → Lives
begins_with event lives = record { first = event ∷ lives.first; later = lives.later }

abbrev pub with_event : ℕ → TraceEvent → Lives → Lives
with_event line (trace_event.message from m) lives = begins_with (trace_event.on line (trace_event.message from m)) lives
with_event line (trace_event.refused from before byte why) lives = begins_with (trace_event.on line (trace_event.refused from before byte why)) lives
with_event line (trace_event.unread from) lives = begins_with (trace_event.on line (trace_event.unread from)) lives
with_event line (trace_event.resumed from size) lives = begins_with (trace_event.on line (trace_event.resumed from size)) lives
with_event line (trace_event.cut_off from bytes) lives = begins_with (trace_event.on line (trace_event.cut_off from bytes)) lives
with_event line trace_event.lost lives = record { first = []; later = lives.first ∷ lives.later }

abbrev pub lives : List At → Lives
lives [] = record { first = []; later = [] }
lives (event ∷ events) = with_event event.line event.trace_event (lives events)

-- a note for each thing that is bad, and then what was not read after it
abbrev pub life_text : Scope → List At → List ℕ
life_text scope life = flat_map note_text life ++ unread_of scope life

abbrev pub lives_text : Scope → Lives → List ℕ
lives_text scope all = life_text scope all.first ++ flat_map (life_text scope) all.later

-- ---- the whole

abbrev pub refused_count : TraceEvent → ℕ
refused_count (trace_event.message from m) = 0
refused_count (trace_event.refused from before byte why) = 1
refused_count (trace_event.unread from) = 0
refused_count (trace_event.resumed from size) = 0
refused_count (trace_event.cut_off from bytes) = 0
refused_count trace_event.lost = 0

abbrev pub cut_off_count : TraceEvent → ℕ
cut_off_count (trace_event.message from m) = 0
cut_off_count (trace_event.refused from before byte why) = 0
cut_off_count (trace_event.unread from) = 0
cut_off_count (trace_event.resumed from size) = 0
cut_off_count (trace_event.cut_off from bytes) = 1
cut_off_count trace_event.lost = 0

abbrev pub refused_in : List At → ℕ
refused_in events = sum_by (λ (event : At). refused_count event.trace_event) events

abbrev pub cut_off_in : List At → ℕ
cut_off_in events = sum_by (λ (event : At). cut_off_count event.trace_event) events

-- how many streams were bad, one at least
abbrev pub streams_text : (refused cut_off : ℕ) → List ℕ
streams_text zero c = counted c (codes "stream") ++ codes " cut off"
streams_text (suc r) zero = counted (suc r) (codes "stream") ++ codes " refused"
streams_text (suc r) (suc c) = counted (suc r) (codes "stream") ++ codes " refused, " ++ decimal (suc c) ++ codes " cut off"

abbrev pub summary_words : (messages refused cut_off : ℕ) → List ℕ
summary_words n r c = codes "zvt: " ++ counted n (codes "message") ++ codes ", " ++ streams_text r c ++ 10 ∷ []

-- the numbers of messages and of bad streams; nothing if no stream was bad
abbrev pub summary_text : (messages refused cut_off : ℕ) → List ℕ
summary_text n zero zero = []
summary_text n zero (suc c) = summary_words n zero (suc c)
summary_text n (suc r) c = summary_words n (suc r) c

abbrev pub summary : List At → List ℕ
summary events = summary_text (most (messages_in events)) (most (refused_in events)) (most (cut_off_in events))

abbrev pub notes_text : Scope → List At → List ℕ
notes_text scope events = lives_text scope (lives events) ++ summary events
