-- The text of what a trace emits.
use Rattle.std.specs.Prelude.{◌≡◌, ℕ, Bool, true, false, length, Option, Some, None, List, [], ◌∷◌, ◌++◌, if◌then◌else◌}
use Rattle.hex.specs.Hex.{encode_upper}
use Rattle.zvt_grammar.specs.Reading.{shortest}
use Rattle.zvt_apdu.specs.Grammar.{Spells}
use Rattle.zvt_apdu.specs.Message.{Message, ack, nack, registration, authorisation, reversal, end_of_day, abort_order, status, intermediate, print_line, text_block, completion, abort, other}
use Rattle.zvt_apdu.specs.Views.{text_in}
use Rattle.zvt_field.specs.Grammar.{Field}
use Rattle.zvt_text.specs.MessageTexts.{said}
use Rattle.zvt_text.specs.Receipts.{block_text, receipt_line}
use Rattle.zvt_text.specs.TextBlocks.{block_lines, block_type}
use Rattle.zvt_text.specs.declared.text_options.TextOptions.{TextOptions}
use Rattle.zvt_trace.specs.Lines.{direction_text}
use Rattle.zvt_trace.specs.Marks.{moment_text}
use Rattle.zvt_trace.specs.Moments.{time_at, times_of}
use Rattle.zvt_trace.specs.TraceEvent.{At, TraceEvent}
use Rattle.zvt_trace.specs.TraceEvent as trace_event
use Rattle.zvt_trace.specs.declared.direction.Direction.{Direction}
use Rattle.zvt_trace.specs.declared.direction.Direction.TheVariants.{FromTill, FromTerminal}
use Rattle.zvt_trace.specs.declared.moment.Moment.{Moment}
use Rattle.zvt_trace.specs.declared.moments.Timed.{Timed}
use Rattle.zvt_json.specs.Events.{EventLine}
use Rattle.zvt_json.specs.Receipts.{receipt_lines}
use Rattle.zvt_show.specs.Lines.{lost_text, refused_text, resumed_text, stopped_text, truncated_text}
use Rattle.zvt_show.specs.declared.receipts.ReceiptOptions.{ReceiptOptions}
use Rattle.zvt_show.specs.declared.render.Style.{Style}
use Rattle.zvt_show.specs.declared.render.Style.TheVariants.{Join, Json, JsonReceipts, Receipts, Show}

-- ---- one message

-- a message is shown; or its bytes are in one line of a trace; or it is a line of a receipt
abbrev pub shown : TextOptions → Direction → Message → List ℕ
shown options from message = direction_text from ++ 32 ∷ said options message

abbrev pub joined : Direction → List ℕ → List ℕ
joined from bytes = direction_text from ++ 32 ∷ encode_upper bytes ++ 10 ∷ []

-- print lines alone, with escapes
abbrev pub print_lines : ReceiptOptions
print_lines = record { text_blocks = false; codepage = None }

-- the receipt lines in a message of the terminal: a print line, or a text block if the options include them
abbrev pub printed : ReceiptOptions → Message → List ℕ
printed options (ack payload) = []
printed options (nack code payload) = []
printed options (registration password config rest) = []
printed options (authorisation fields) = []
printed options (reversal password fields) = []
printed options (end_of_day password fields) = []
printed options (abort_order fields) = []
printed options (status fields) = []
printed options (intermediate step payload) = []
printed options (print_line attribute text) = receipt_line options.codepage text
printed options (text_block fields) = if options.text_blocks then block_text options.codepage fields else []
printed options (completion fields) = []
printed options (abort code payload) = []
printed options (other high low payload) = []

-- the fields of a text block
abbrev pub block_fields : Message → Option (List Field)
block_fields (text_block fields) = Some fields
block_fields _ = None

abbrev pub receipt : ReceiptOptions → Direction → Message → List ℕ
receipt options FromTill message = []
receipt options FromTerminal message = printed options message

-- in the styles that write JSON a message has no text but that
abbrev pub MessageText : Style → Direction → Message → List ℕ → Type 0
MessageText (Show options) from message text = text ≡ shown options from message
MessageText Join from message text =
    (bytes : List ℕ) × Spells shortest message bytes × (text ≡ joined from bytes)
MessageText (Receipts options) from message text = text ≡ receipt options from message
MessageText Json from message text = text ≡ []
MessageText (JsonReceipts text_blocks) from message text = text ≡ []

-- ---- all events

abbrev pub PlainText : Style → TraceEvent → List ℕ → Type 0
PlainText style (trace_event.message from m) text = MessageText style from m text
PlainText style (trace_event.refused from before byte why) text = text ≡ refused_text style from (length before) why
PlainText style (trace_event.unread from) text = text ≡ stopped_text style from
PlainText style (trace_event.resumed from size) text = text ≡ resumed_text style from size
PlainText style (trace_event.cut_off from bytes) text = text ≡ truncated_text style from (length bytes)
PlainText style trace_event.lost text = text ≡ lost_text style

-- a line that the terminal wants printed
abbrev pub printed_in : TraceEvent → Option (List ℕ)
printed_in (trace_event.message FromTill m) = None
printed_in (trace_event.message FromTerminal m) = text_in m
printed_in (trace_event.refused from before byte why) = None
printed_in (trace_event.unread from) = None
printed_in (trace_event.resumed from size) = None
printed_in (trace_event.cut_off from bytes) = None
printed_in trace_event.lost = None

-- the fields of a text block of the terminal
abbrev pub block_in : TraceEvent → Option (List Field)
block_in (trace_event.message FromTill m) = None
block_in (trace_event.message FromTerminal m) = block_fields m
block_in (trace_event.refused from before byte why) = None
block_in (trace_event.unread from) = None
block_in (trace_event.resumed from size) = None
block_in (trace_event.cut_off from bytes) = None
block_in trace_event.lost = None

-- a line of JSON for each line of a text block, if text blocks are read; nothing for another event
abbrev pub block_json : (text_blocks : Bool) → (line : ℕ) → Option (List Field) → List ℕ
block_json true line (Some fields) = receipt_lines (block_type fields) line (block_lines fields)
block_json true line None = []
block_json false line fields = []

-- of an event with a line that is to be printed its JSON
abbrev pub PrintedLine : (text_blocks : Bool) → Option (List ℕ) → At → List ℕ → Type 0
PrintedLine text_blocks None event text = text ≡ block_json text_blocks event.line (block_in event.trace_event)
PrintedLine text_blocks (Some line) event text = EventLine event text

abbrev pub EventText : Style → At → List ℕ → Type 0
EventText (Show options) event text = PlainText (Show options) event.trace_event text
EventText Join event text = PlainText Join event.trace_event text
EventText (Receipts options) event text = PlainText (Receipts options) event.trace_event text
EventText Json event text = EventLine event text
EventText (JsonReceipts text_blocks) event text = PrintedLine text_blocks (printed_in event.trace_event) event text

-- ---- events with the times of their lines

-- how events are written: the style, and the lines whose times are written
pub record Rendering : Type 0 where
  pub style : Style
  pub times : List Timed

abbrev pub untimed : Style → Rendering
untimed style = record { style = style; times = [] }

-- the lines that have a moment, if moments are wanted
abbrev pub times_if : (timed : Bool) → (trace : List (List ℕ)) → List Timed
times_if timed trace = if timed then times_of trace else []

abbrev pub rendering_of : Style → (timed : Bool) → (trace : List (List ℕ)) → Rendering
rendering_of style timed trace = record { style = style; times = times_if timed trace }

-- a moment and a space, if there is one
abbrev pub moment_part : Option Moment → List ℕ
moment_part None = []
moment_part (Some moment) = moment_text moment ++ 32 ∷ []

-- the time of the line comes first, if it has one
abbrev pub TimedText : List Timed → Style → At → List ℕ → Type 0
TimedText [] style event text = EventText style event text
TimedText (first ∷ later) style event text = (one : List ℕ) × (text ≡ moment_part (time_at (first ∷ later) event.line) ++ one) × EventText style event one

abbrev pub RenderedTexts : Rendering → List At → List ℕ → Type 0
RenderedTexts rendering [] text = text ≡ []
RenderedTexts rendering (event ∷ events) text =
    (one : List ℕ) × (after : List ℕ) × (text ≡ one ++ after) × TimedText rendering.times rendering.style event one × RenderedTexts rendering events after

abbrev pub EventsText : Style → List At → List ℕ → Type 0
EventsText style events text = RenderedTexts (untimed style) events text
