-- What the commands answer and write.
use Rattle.std.specs.Prelude.{◌≡◌, ℕ, ◌<◌, ◌≤◌, ◌++◌, List, length, Option, None, Some, Result, Ok, Err}
use Rattle.std.specs.Io.KnownBytes.{Appends, Keeps}
use Rattle.std.specs.Str.Lines.{lines}
use Rattle.zvt_io.specs.Devices.{IsPrefix}
use Rattle.zvt_grammar.specs.Reading.{Reading, shortest}
use Rattle.zvt_apdu.specs.Message.{Message}
use Rattle.zvt_trace.specs.TraceEvent.{At, Tallies, TraceEvent}
use Rattle.zvt_trace.specs.Emitting.{BrokenTrace, EventsSoFar, WholeTrace}
use Rattle.zvt_trace.specs.Written.{AppendsPrefix, limit}
use Rattle.zvt_trace.specs.declared.direction.Direction.{Direction}
use Rattle.zvt_trace.specs.declared.fault.Tally.{Tally}
use Rattle.zvt_trace.specs.declared.fault.TraceFault.{TraceFault}
use Rattle.zvt_trace.specs.declared.fault.TraceFault.TheVariants.{Memory, Read, TooLong, Trace, Write}
use Rattle.zvt_trace.specs.declared.listener.ListenerError.{ListenerError}
use Rattle.zvt_trace.specs.declared.listener.ListenerError.TheVariants as failure
use Rattle.zvt_trace.specs.declared.listener.Scope.{Scope}
use Rattle.zvt_trace.specs.declared.listener.Scope.TheVariants.{OneSide}
use Rattle.zvt_show.specs.Text.{EventText, MessageText, PlainText, Rendering, RenderedTexts, TimedText, untimed}
use Rattle.zvt_trace.specs.declared.moments.Timed.{Timed}
use Rattle.zvt_show.specs.declared.render.Style.{Style}

-- ---- what the functions add to the text

-- the text grew by a message's
pub record AddsMessage (style : Style) (from : Direction) (message : Message) (old new : List ℕ) : Type 0 where
  pub one : List ℕ
  pub says : MessageText style from message one
  pub grown : new ≡ old ++ one

-- the text grew by the text of an event, in a style that writes no JSON
pub record AddsPlain (style : Style) (trace_event : TraceEvent) (old new : List ℕ) : Type 0 where
  pub one : List ℕ
  pub says : PlainText style trace_event one
  pub grown : new ≡ old ++ one

-- the text grew by the text of the event
pub record AddsEvent (style : Style) (event : At) (old new : List ℕ) : Type 0 where
  pub one : List ℕ
  pub says : EventText style event one
  pub grown : new ≡ old ++ one

-- the same after the moment of its line, if that is one of these
pub record AddsTimed (times : List Timed) (style : Style) (event : At) (old new : List ℕ) : Type 0 where
  pub one : List ℕ
  pub says : TimedText times style event one
  pub grown : new ≡ old ++ one

-- ---- what a device has that failed

-- the device has all that it had
abbrev pub Extends : (old new : Option (List ℕ)) → Type 0
Extends old new = (more : List ℕ) × Appends old new more

-- the device has a prefix of what was to be there
abbrev pub IsShortOf : (whole new : Option (List ℕ)) → Type 0
IsShortOf None new = Unit {0}
IsShortOf (Some bytes) None = ⊥
IsShortOf (Some bytes) (Some prefix) = IsPrefix prefix bytes

-- ---- blocks

-- what the device has once it has the block too
abbrev pub after : Option (List ℕ) → List ℕ → Option (List ℕ)
after None block = None
after (Some bytes) block = Some (bytes ++ block)

-- what the device has, what is still to be written, and the number of failed writes
pub record Page : Type 0 where
  pub rendering : Rendering
  pub written : Option (List ℕ)
  pub block : List ℕ
  pub failures : ℕ

abbrev pub page : Rendering → Option (List ℕ) → List ℕ → ℕ → Page
page rendering written block failures = record { rendering = rendering; written = written; block = block; failures = failures }

abbrev pub all_of : Page → Option (List ℕ)
all_of page = after page.written page.block

-- the text of the events comes after the block, or the block's does on the device
pub record WritesEvent (event : At) (old new : Page) : Type 0 where
  pub text : List ℕ
  pub says : TimedText old.rendering.times old.rendering.style event text
  pub appended : Appends (all_of old) (all_of new) text
  pub extends : Extends old.written new.written
  pub failures : new.failures ≡ old.failures
  pub same : new.rendering ≡ old.rendering

-- where memory is refused nothing of it is written; of a write that failed, some prefix of what was to be written before
abbrev pub FailsEvent : ListenerError → (old new : Page) → Type 0
FailsEvent failure.Memory old new = Keeps (all_of old) (all_of new) × Extends old.written new.written × (old.failures ≤ new.failures)
FailsEvent failure.Write old new = IsShortOf (all_of old) (all_of new) × Extends old.written new.written × (old.failures < new.failures)

-- ---- what a command answers

-- What a command answers for the lines of a trace, by that reading of lengths, where a refusal leaves so much unread. Where memory is refused, the text of all
-- that the lines before emit is written, and of a prefix of what comes next; of a write that failed, some prefix of such a
-- text.
abbrev pub AnswersRendered : Reading → Scope → Rendering → List (List ℕ) → (old new : Option (List ℕ)) → Result Tally TraceFault → Type 0
AnswersRendered r scope rendering lines old new (Ok tally) =
    (events : List At) × (text : List ℕ) × WholeTrace r scope lines events × RenderedTexts rendering events text × Appends old new text × Tallies tally events
AnswersRendered r scope rendering lines old new (Err (Trace number what)) =
    (events : List At) × (text : List ℕ) × BrokenTrace r scope lines number what events × RenderedTexts rendering events text × Appends old new text
AnswersRendered r scope rendering lines old new (Err Write) =
    (events : List At) × (text : List ℕ) × EventsSoFar r scope lines events × RenderedTexts rendering events text × AppendsPrefix old new text
AnswersRendered r scope rendering lines old new (Err Memory) =
    (events : List At) × (text : List ℕ) × EventsSoFar r scope lines events × RenderedTexts rendering events text × Appends old new text
AnswersRendered r scope rendering lines old new (Err TooLong) = ⊥
AnswersRendered r scope rendering lines old new (Err Read) = ⊥

-- the same without the times of lines
abbrev pub AnswersLinesBy : Reading → Scope → Style → List (List ℕ) → (old new : Option (List ℕ)) → Result Tally TraceFault → Type 0
AnswersLinesBy r scope style lines old new result = AnswersRendered r scope (untimed style) lines old new result

-- What a command answers for a trace of known bytes, by that reading of lengths.
abbrev pub AnswersTraceBy : Reading → Style → (trace : List ℕ) → (old new : Option (List ℕ)) → Result Tally TraceFault → Type 0
AnswersTraceBy r style trace old new (Ok tally) = (length trace ≤ limit) × AnswersLinesBy r OneSide style (lines trace) old new (Ok tally)
AnswersTraceBy r style trace old new (Err (Trace line what)) = (length trace ≤ limit) × AnswersLinesBy r OneSide style (lines trace) old new (Err (Trace line what))
AnswersTraceBy r style trace old new (Err TooLong) = (limit < length trace) × Keeps old new
AnswersTraceBy r style trace old new (Err Read) = Keeps old new
AnswersTraceBy r style trace old new (Err Write) = (length trace ≤ limit) × AnswersLinesBy r OneSide style (lines trace) old new (Err Write)
AnswersTraceBy r style trace old new (Err Memory) = AnswersLinesBy r OneSide style (lines trace) old new (Err Memory)

-- The same of a strict command.
abbrev pub AnswersTrace : Style → (trace : List ℕ) → (old new : Option (List ℕ)) → Result Tally TraceFault → Type 0
AnswersTrace style trace old new answer = AnswersTraceBy shortest style trace old new answer
