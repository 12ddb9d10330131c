-- What is written of a trace that comes piece by piece.
use Rattle.std.specs.Prelude.{◌≡◌, ◌<◌, ◌≤◌, ℕ, List, [], Option, Result, Ok, Err}
use Rattle.std.specs.Io.KnownBytes.{Appends, IsAtEnd}
use Rattle.std.specs.Str.Lines.{lines}
use Rattle.zvt_grammar.specs.Reading.{Reading}
use Rattle.zvt_trace.specs.Chunks.{HasRead, IsReady, IsTooLong, WholeLinesEmit, walker_reading, walker_scope}
use Rattle.zvt_trace.specs.TraceEvent.{At}
use Rattle.zvt_trace.specs.declared.fault.Tally.{Tally}
use Rattle.zvt_trace.specs.declared.fault.TraceFault.{TraceFault}
use Rattle.zvt_trace.specs.declared.fault.TraceFault.TheVariants.{Memory, Read, TooLong, Trace, Write}
use Rattle.zvt_trace.specs.declared.listener.Scope.{Scope}
use Rattle.zvt_show.specs.Text.{EventsText}
use Rattle.zvt_show.specs.Written.{AnswersLinesBy}
use Rattle.zvt_show.specs.declared.follow.Follower.{Follower}
use Rattle.zvt_show.specs.declared.render.Style.{Style}

-- ---- one turn

-- Of these bytes all whole lines that are read have their text on the device, after what it had first.
pub record HasWritten (r : Reading) (scope : Scope) (style : Style) (bytes : List ℕ) (first now : Option (List ℕ)) (follower : Follower) : Type 0 where
  pub events : List At
  pub text : List ℕ
  pub read : HasRead r scope bytes events follower.walker
  pub says : EventsText style events text
  pub written : Appends first now text
  pub in_style : follower.pages.style ≡ style
  pub reading : walker_reading follower.walker ≡ r
  pub by_scope : walker_scope follower.walker ≡ scope

-- no text waits to be written
pub record IsFollowing (follower : Follower) : Type 0 where
  pub ready : IsReady follower.walker
  pub empty : follower.pages.block ≡ []

-- the device has, besides, the text of events with this property
abbrev pub WritesText : Style → (List At → Type 0) → (first now : Option (List ℕ)) → Type 0
WritesText style Says first now = (events : List At) × (text : List ℕ) × Says events × EventsText style events text × Appends first now text

-- A turn failed over the last of these bytes. Before a line that is too long, the text of all lines is written.
abbrev pub TurnFaults : Reading → Scope → Style → (bytes : List ℕ) → (first now : Option (List ℕ)) → TraceFault → Type 0
TurnFaults r scope style bytes first now (Trace number what) = AnswersLinesBy r scope style (lines bytes) first now (Err (Trace number what))
TurnFaults r scope style bytes first now Memory = AnswersLinesBy r scope style (lines bytes) first now (Err Memory)
TurnFaults r scope style bytes first now Write = AnswersLinesBy r scope style (lines bytes) first now (Err Write)
TurnFaults r scope style bytes first now TooLong = WritesText style (IsTooLong r scope bytes) first now
TurnFaults r scope style bytes first now Read = ⊥

abbrev pub AnswersTurn : Reading → Scope → Style → (bytes : List ℕ) → (first now : Option (List ℕ)) → Follower → Result Unit TraceFault → Type 0
AnswersTurn r scope style bytes first now follower (Ok fed) = HasWritten r scope style bytes first now follower
AnswersTurn r scope style bytes first now follower (Err fault) = TurnFaults r scope style bytes first now fault

-- no failure of a write is taken back, and what failed by a write counted one
abbrev pub CountsWrites : {X : Type 0} → ℕ → ℕ → Result X TraceFault → Type 0
CountsWrites old new result = (old ≤ new) × (result ≡ Err Write → old < new)

-- ---- the whole

-- What following a trace answers, once these bytes of it were taken. After a read that failed, the text of all whole lines is written.
abbrev pub AnswersFollow : Reading → Scope → Style → (taken : List ℕ) → (rest first now : Option (List ℕ)) → Result Tally TraceFault → Type 0
AnswersFollow r scope style taken rest first now (Ok tally) = AnswersLinesBy r scope style (lines taken) first now (Ok tally) × IsAtEnd rest
AnswersFollow r scope style taken rest first now (Err (Trace number what)) = TurnFaults r scope style taken first now (Trace number what)
AnswersFollow r scope style taken rest first now (Err Memory) = TurnFaults r scope style taken first now Memory
AnswersFollow r scope style taken rest first now (Err Write) = TurnFaults r scope style taken first now Write
AnswersFollow r scope style taken rest first now (Err TooLong) = TurnFaults r scope style taken first now TooLong
AnswersFollow r scope style taken rest first now (Err Read) = WritesText style (WholeLinesEmit r scope taken) first now
