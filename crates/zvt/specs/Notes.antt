-- The commands that report notes and hints.
use Rattle.std.specs.Prelude.{ℕ, Bool, cond, is_some, Option, Some, None, Result, Ok, Err}
use Rattle.zvt_audit.specs.declared.summary.AuditSummary.{AuditSummary}
use Rattle.zvt_trace.specs.declared.fault.TraceFault.{TraceFault}
use Rattle.zvt_trace.specs.declared.fault.TraceFault.TheVariants as fault
use Rattle.zvt_trace.specs.declared.listener.Scope.{Scope}
use Rattle.zvt_tool.specs.TraceCommands.{work_scope}
use Rattle.zvt_tool.specs.declared.trace_command.TraceCommand.{TraceCommand}
use Rattle.zvt_tool.specs.declared.trace_command.TraceWork.{TraceWork}
use Rattle.zvt_tool.specs.declared.trace_command.TraceWork.TheVariants.{Render, Audit, Report, Vectors}

abbrev pub scope_by : TraceWork → (reads_on : Bool) → Option Scope
scope_by (Render style) reads_on = Some (work_scope (Render style) reads_on)
scope_by (Audit form) reads_on = Some (work_scope (Audit form) reads_on)
scope_by (Report form zone strict) reads_on = Some (work_scope (Report form zone strict) reads_on)
scope_by (Vectors written) reads_on = None

-- what is not read after a refusal: its side or the refused message, or for the books the whole line
abbrev pub scope_of : TraceCommand → Option Scope
scope_of command = scope_by command.work command.reads_on

-- the line that can't be read, where a command on a line's messages ended for that
abbrev pub faulty_line : TraceCommand → Result AuditSummary TraceFault → Option ℕ
faulty_line command (Ok found) = None
faulty_line command (Err (fault.Trace line what)) = cond (is_some (scope_of command)) (Some line) None
faulty_line command (Err fault.TooLong) = None
faulty_line command (Err fault.Read) = None
faulty_line command (Err fault.Write) = None
faulty_line command (Err fault.Memory) = None
