-- The result of a run with a trace.
use Rattle.std.specs.Prelude.{ℕ, Bool, true, false, Option, Some, None, Result, Ok, Err}
use Rattle.zvt_runs.specs.declared.fault.EndFault.{EndFault}
use Rattle.zvt_runs.specs.declared.fault.EndFault.TheVariants.{Line, Silent, Trace, Unsuccessful}

-- If the trace broke, the fault is the trace's, whether the run was completed or the line was given up.
abbrev pub by_trace : (broken : Bool) → Result Unit EndFault → Result Unit EndFault
by_trace false result = result
by_trace true (Ok done) = Err Trace
by_trace true (Err (Line fault)) = Err Trace
by_trace true (Err Unsuccessful) = Err Trace
by_trace true result = result

-- If a read timed out and the line was given up for that, the fault is the terminal's silence.
abbrev pub by_silence : (waited : Option ℕ) → Result Unit EndFault → Result Unit EndFault
by_silence None result = result
by_silence (Some seconds) (Err (Line fault)) = Err (Silent seconds)
by_silence (Some seconds) result = result

-- the run was completed, or the line was given up
abbrev pub IsWhole : Result Unit EndFault → Type 0
IsWhole (Ok done) = Unit {0}
IsWhole (Err (Line fault)) = Unit {0}
IsWhole (Err Unsuccessful) = Unit {0}
IsWhole result = ⊥

-- The result if the trace may have broken. If it has, the run was like one with a complete trace: it was completed, or
-- the line was given up.
abbrev pub AnswersTraced : (Result Unit EndFault → Type 0) → Result Unit EndFault → Type 0
AnswersTraced Answers (Err Trace) = (ended : Result Unit EndFault) × IsWhole ended × Answers ended
AnswersTraced Answers result = Answers result
