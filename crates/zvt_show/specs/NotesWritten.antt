-- What writing the notes answers.
use Rattle.std.specs.Prelude.{◌⊎◌, ℕ, List, Option, Result, Ok, Err}
use Rattle.std.specs.Io.KnownBytes.{Appends, Keeps}
use Rattle.zvt_grammar.specs.Reading.{Reading}
use Rattle.zvt_trace.specs.TraceEvent.{At}
use Rattle.zvt_trace.specs.Emitting.{BrokenTrace, WholeTrace}
use Rattle.zvt_trace.specs.Written.{AppendsPrefix}
use Rattle.zvt_trace.specs.declared.fault.TraceLineError.{TraceLineError}
use Rattle.zvt_trace.specs.declared.listener.ListenerError.{ListenerError}
use Rattle.zvt_trace.specs.declared.listener.ListenerError.TheVariants.{Memory, Write}
use Rattle.zvt_trace.specs.declared.listener.Scope.{Scope}
use Rattle.zvt_show.specs.Notes.{notes_text}

-- all events of the trace, or the lines before one that can't be read
abbrev pub EmitsAll : Reading → Scope → List (List ℕ) → List At → Type 0
EmitsAll r scope lines events = WholeTrace r scope lines events ⊎ ((number : ℕ) × (what : TraceLineError) × BrokenTrace r scope lines number what events)

-- The device has besides the notes of all events. Where memory is refused nothing is written, and of a write that
-- failed a prefix of the notes.
abbrev pub AnswersNotes : Reading → Scope → List (List ℕ) → (old new : Option (List ℕ)) → Result Unit ListenerError → Type 0
AnswersNotes r scope lines old new (Ok done) = (events : List At) × EmitsAll r scope lines events × Appends old new (notes_text scope events)
AnswersNotes r scope lines old new (Err Write) = (events : List At) × EmitsAll r scope lines events × AppendsPrefix old new (notes_text scope events)
AnswersNotes r scope lines old new (Err Memory) = Keeps old new
