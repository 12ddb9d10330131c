-- What the audit of a line has heard.
use Rattle.std.specs.Prelude.{◌⊎◌, ℕ, Bool, List, Option, Result, Ok, Err}
use Rattle.std.specs.Io.KnownBytes.{Keeps}
use Rattle.zvt_grammar.specs.Reading.{Reading}
use Rattle.zvt_audit.specs.Line.{AnswersLine, IsNew, hears_line}
use Rattle.zvt_trace.specs.Resuming.{side_scope}
use Rattle.zvt_audit.specs.declared.line.LineAudit.{LineAudit}
use Rattle.zvt_audit.specs.declared.line.LineBooks.{LineBooks}
use Rattle.zvt_show.specs.Beside.{AnswersTold, HasTold, Watching}
use Rattle.zvt_trace.specs.declared.fault.TraceFault.{TraceFault}

-- a new audit has heard this trace, unless it failed before
abbrev pub HasHeard : {O : Type 0} → Reading → (reads_on : Bool) → (trace : List ℕ) → Watching O LineAudit → Type 0
HasHeard r reads_on trace watching = (start : LineAudit) × IsNew reads_on start × HasTold hears_line r (side_scope reads_on) trace start watching

-- a new audit has heard this whole trace, or it failed
abbrev pub HasAudited : Reading → (reads_on : Bool) → (trace : List ℕ) → Result LineAudit TraceFault → Type 0
HasAudited r reads_on trace audit = (start : LineAudit) × IsNew reads_on start × AnswersTold hears_line r (side_scope reads_on) trace start audit

-- What an audit of a trace answers: as of a whole one; or it failed before, and nothing is written.
abbrev pub AnswersHeard : Reading → (reads_on : Bool) → (trace : List ℕ) → (old new : Option (List ℕ)) → Result LineBooks TraceFault → Type 0
AnswersHeard r reads_on trace old new (Ok found) = AnswersLine r reads_on trace old new (Ok found)
AnswersHeard r reads_on trace old new (Err fault) = AnswersLine r reads_on trace old new (Err fault) ⊎ Keeps old new
