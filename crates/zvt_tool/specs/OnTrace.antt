-- The results of the commands on a trace.
use Rattle.std.specs.Prelude.{ℕ, Bool, List, [], ◌∷◌, codes, cond, map, Option, Result, Ok, Err, IfSome}
use Rattle.std.specs.Io.KnownBytes.{Consumes}
use Rattle.std.specs.Str.{bytes_eq}
use Rattle.std.specs.Str.Lines.{lines}
use Rattle.zvt_grammar.specs.Reading.{Reading}
use Rattle.zvt_grammar.specs.Lengths.{reading_of}
use Rattle.zvt_trace.specs.declared.listener.Scope.{Scope}
use Rattle.zvt_tool.specs.TraceCommands.{work_scope}
use Rattle.zvt_tool.specs.declared.trace_command.TraceCommand.{TraceCommand}
use Rattle.zvt_tool.specs.declared.trace_command.TraceWork.{TraceWork}
use Rattle.zvt_tool.specs.declared.trace_command.TraceWork.TheVariants.{Render, Audit, Report, Vectors}
use Rattle.zvt_audit.specs.Audited.{AnswersFollowed, AnswersReadBy}
use Rattle.zvt_audit.specs.declared.summary.AuditSummary.{AuditSummary}
use Rattle.zvt_report.specs.Written.{AnswersReadWritten, AnswersWritten}
use Rattle.zvt_report.specs.declared.written.ReportSummary.{ReportSummary}
use Rattle.zvt_tool.specs.Checked.{AnswersVectors}
use Rattle.zvt_show.specs.Followed.{AnswersFollow}
use Rattle.zvt_show.specs.Text.{rendering_of}
use Rattle.zvt_show.specs.Written.{AnswersRendered}
use Rattle.zvt_trace.specs.declared.fault.Tally.{Tally}
use Rattle.zvt_trace.specs.declared.fault.TraceFault.{TraceFault}

abbrev pub tally_of : Result AuditSummary TraceFault → Result Tally TraceFault
tally_of (Ok found) = Ok found.tally
tally_of (Err fault) = Err fault

abbrev pub summary_of : AuditSummary → ReportSummary
summary_of found = record { tally = found.tally; acts = found.unclear; passed = found.passed }

-- a report counts the cases to act on in the place of unclear payments
abbrev pub report_of : Result AuditSummary TraceFault → Result ReportSummary TraceFault
report_of (Ok found) = Ok (summary_of found)
report_of (Err fault) = Err fault

-- the name of the first of these files; standard input has none
abbrev pub file_name : (files : List (List ℕ)) → List ℕ
file_name [] = []
file_name (file ∷ files) = cond (bytes_eq file (codes "-")) [] file

-- the result and the output for a trace, with these lengths
abbrev pub AnswersWork : TraceWork → (timed : Bool) → (name : List ℕ) → Reading → Scope → (trace : List ℕ) → (old new : Option (List ℕ)) → Result AuditSummary TraceFault → Type 0
AnswersWork (Render style) timed name r scope trace old new result = AnswersRendered r scope (rendering_of style timed (lines trace)) (lines trace) old new (tally_of result)
AnswersWork (Audit form) timed name r scope trace old new result = AnswersReadBy r scope form trace old new result
AnswersWork (Report form zone strict) timed name r scope trace old new result = AnswersWritten r scope form zone name trace old new (report_of result)
AnswersWork (Vectors form) timed name r scope trace old new result = AnswersVectors form trace old new (tally_of result)

-- the result of the command for a trace that was read
abbrev pub AnswersOnTrace : TraceCommand → (trace : List ℕ) → (old new : Option (List ℕ)) → Result AuditSummary TraceFault → Type 0
AnswersOnTrace command trace old new result = AnswersWork command.work command.times (file_name (map (λ file. file.now) command.files.items)) (reading_of command.lengths) (work_scope command.work command.reads_on) trace old new result

-- the result and the output for a trace that is being read, with these lengths; vectors and the trace of a report are read completely first
abbrev pub FollowsWork : TraceWork → (name : List ℕ) → Reading → Scope → (left rest old new : Option (List ℕ)) → Result AuditSummary TraceFault → Type 0
FollowsWork (Render style) name r scope left rest old new result = (taken : List ℕ) × Consumes left rest taken × AnswersFollow r scope style taken rest old new (tally_of result)
FollowsWork (Audit form) name r scope left rest old new result = (taken : List ℕ) × Consumes left rest taken × AnswersFollowed r scope form taken rest old new result
FollowsWork (Report form zone strict) name r scope left rest old new result = IfSome left (λ text. AnswersReadWritten r scope form zone name text old new (report_of result))
FollowsWork (Vectors form) name r scope left rest old new result = IfSome left (λ text. AnswersVectors form text old new (tally_of result))

-- the result of the command for a trace that is being read
abbrev pub FollowsTrace : TraceCommand → (left rest old new : Option (List ℕ)) → Result AuditSummary TraceFault → Type 0
FollowsTrace command left rest old new result = FollowsWork command.work (file_name (map (λ file. file.now) command.files.items)) (reading_of command.lengths) (work_scope command.work command.reads_on) left rest old new result
