-- What an audit has heard of a trace that comes chunk by chunk.
use Rattle.std.specs.Prelude.{◌≡◌, ℕ, List, Option, Result, Ok, Err}
use Rattle.std.specs.Io.KnownBytes.{IsAtEnd}
use Rattle.std.specs.Str.Lines.{lines}
use Rattle.zvt_grammar.specs.Reading.{Reading}
use Rattle.zvt_trace.specs.Chunks.{HasRead, IsReady, IsTooLong, walker_reading, walker_scope}
use Rattle.zvt_trace.specs.Emitting.{BrokenTrace}
use Rattle.zvt_trace.specs.Listening.{HearsAll}
use Rattle.zvt_trace.specs.TraceEvent.{At}
use Rattle.zvt_trace.specs.declared.chunks.Walker.{Walker}
use Rattle.zvt_trace.specs.declared.fault.TraceFault.{TraceFault}
use Rattle.zvt_trace.specs.declared.fault.TraceFault.TheVariants.{Memory, Read, TooLong, Trace, Write}
use Rattle.zvt_trace.specs.declared.listener.Scope.{Scope}
use Rattle.zvt_audit.specs.Audited.{StartsIn, hears_by}
use Rattle.zvt_audit.specs.declared.auditor.Auditor.{Auditor}
use Rattle.zvt_audit.specs.declared.by_control.ByControl.{ByControl}
use Rattle.zvt_audit.specs.declared.follow.Audit.{Audit}

-- ---- one chunk after another

-- the walker has read these bytes, and the auditor has heard all that they say
pub record HasHeard (r : Reading) (scope : Scope) (bytes : List ℕ) (start now : ByControl Auditor) (walker : Walker) : Type 0 where
  pub events : List At
  pub read : HasRead r scope bytes events walker
  pub heard : HearsAll hears_by start events now
  pub reading : walker_reading walker ≡ r
  pub is_scope : walker_scope walker ≡ scope

-- an auditor that was connected has heard all that these bytes say
pub record HasAudited (r : Reading) (scope : Scope) (bytes : List ℕ) (audit : Audit) : Type 0 where
  pub start : ByControl Auditor
  pub starts : StartsIn scope start
  pub has : HasHeard r scope bytes start audit.auditor audit.walker

-- it may hear more
abbrev pub IsAuditing : Audit → Type 0
IsAuditing audit = IsReady audit.walker

-- What a fault says of the bytes up to the last one it read.
abbrev pub HearingFaults : Reading → Scope → (bytes : List ℕ) → TraceFault → Type 0
HearingFaults r scope bytes (Trace number what) = (events : List At) × BrokenTrace r scope (lines bytes) number what events
HearingFaults r scope bytes TooLong = (events : List At) × IsTooLong r scope bytes events
HearingFaults r scope bytes Memory = Unit {0}
HearingFaults r scope bytes Write = ⊥
HearingFaults r scope bytes Read = ⊥

-- What hearing the last of these bytes answers.
abbrev pub AnswersTurn : Reading → Scope → (bytes : List ℕ) → Audit → Result Unit TraceFault → Type 0
AnswersTurn r scope bytes audit (Ok heard) = HasAudited r scope bytes audit
AnswersTurn r scope bytes audit (Err fault) = HearingFaults r scope bytes fault

-- ---- the whole

-- What hearing all of a trace answers, once these bytes of it were taken, and what is left of them.
abbrev pub AnswersHearing : Reading → Scope → (taken : List ℕ) → (rest : Option (List ℕ)) → Result Audit TraceFault → Type 0
AnswersHearing r scope taken rest (Ok audit) = HasAudited r scope taken audit × IsAtEnd rest
AnswersHearing r scope taken rest (Err (Trace number what)) = HearingFaults r scope taken (Trace number what)
AnswersHearing r scope taken rest (Err TooLong) = HearingFaults r scope taken TooLong
AnswersHearing r scope taken rest (Err Memory) = HearingFaults r scope taken Memory
AnswersHearing r scope taken rest (Err Write) = HearingFaults r scope taken Write
AnswersHearing r scope taken rest (Err Read) = Unit {0}
