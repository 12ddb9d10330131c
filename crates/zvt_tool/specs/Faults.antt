-- The faults of the library's calls, from the faults of traces and of runs, and the results of the calls.
use Rattle.std.specs.Prelude.{◌≡◌, ℕ, Bool, false, List, Option, Result, Ok, Err, Vec}
use Rattle.std.specs.Global.{Global}
use Rattle.std.specs.Io.KnownBytes.{Keeps}
use Rattle.zvt_grammar.specs.Reading.{Reading}
use Rattle.zvt_grammar.specs.Lengths.{reading_of}
use Rattle.zvt_stream.specs.LineReading.{strictly}
use Rattle.zvt_audit.specs.Audited.{AnswersAuditBy}
use Rattle.zvt_text.specs.declared.form.Form.TheVariants.{Text}
use Rattle.zvt_show.specs.Written.{AnswersTraceBy}
use Rattle.zvt_show.specs.declared.render.Style.{Style}
use Rattle.zvt_trace.specs.declared.fault.Tally.{Tally}
use Rattle.zvt_trace.specs.declared.fault.TraceFault.{TraceFault}
use Rattle.zvt_trace.specs.declared.fault.TraceFault.TheVariants as on_trace
use Rattle.zvt_runs.specs.Plans.{PlansOrStops, words_of}
use Rattle.zvt_runs.specs.declared.arguments.Ends.{Ends}
use Rattle.zvt_runs.specs.declared.fault.EndFault.{EndFault}
use Rattle.zvt_runs.specs.declared.fault.EndFault.TheVariants as at_end
use Rattle.zvt_runs.specs.declared.plans.Planned.{Planned}
use Rattle.zvt_runs.specs.declared.plans.StepOptions.{StepOptions}
use Rattle.zvt_runs.specs.Tills.{AnswersService}
use Rattle.zvt_term.specs.Extras.{no_extras}
use Rattle.zvt_term.specs.declared.turns.Verdict.{Verdict}
use Rattle.zvt_tool.specs.Checked.{AnswersVectors}
use Rattle.zvt_tool.specs.Options.{lengths_by}
use Rattle.zvt_tool.specs.declared.fault.ToolFault.{ToolFault}
use Rattle.zvt_tool.specs.declared.fault.ToolFault.TheVariants as tool

abbrev pub fault_of_trace : TraceFault → ToolFault
fault_of_trace (on_trace.Trace line what) = tool.Trace line what
fault_of_trace on_trace.TooLong = tool.TooLong
fault_of_trace on_trace.Read = tool.Read
fault_of_trace on_trace.Write = tool.Write
fault_of_trace on_trace.Memory = tool.Memory

abbrev pub fault_of_run : EndFault → ToolFault
fault_of_run (at_end.Line fault) = tool.Line fault
fault_of_run (at_end.Silent seconds) = tool.Silent seconds
fault_of_run at_end.Trace = tool.TraceFile
fault_of_run at_end.Book = tool.Book
fault_of_run at_end.Unsuccessful = tool.Unsuccessful
fault_of_run (at_end.BadStep at) = tool.BadStep at
fault_of_run (at_end.Net why) = tool.Net
fault_of_run at_end.Write = tool.Write
fault_of_run at_end.Memory = tool.Memory

abbrev pub in_trace : Result Tally TraceFault → Result Tally ToolFault
in_trace (Ok tally) = Ok tally
in_trace (Err fault) = Err (fault_of_trace fault)

abbrev pub in_run : Result Unit EndFault → Result Unit ToolFault
in_run (Ok done) = Ok done
in_run (Err fault) = Err (fault_of_run fault)

-- ---- traces

-- a trace of known bytes was written in this style
abbrev pub Renders : Reading → Style → (trace : List ℕ) → (old new : Option (List ℕ)) → Result Tally ToolFault → Type 0
Renders r style trace old new result = (answer : Result Tally TraceFault) × AnswersTraceBy r style trace old new answer × (result ≡ in_trace answer)

-- the books of a trace were written
abbrev pub Audits : Reading → (trace : List ℕ) → (old new : Option (List ℕ)) → Result Tally ToolFault → Type 0
Audits r trace old new result = (answer : Result Tally TraceFault) × AnswersAuditBy r trace old new answer × (result ≡ in_trace answer)

-- vectors of known bytes were checked
abbrev pub Checks : (text : List ℕ) → (old new : Option (List ℕ)) → Result Tally ToolFault → Type 0
Checks text old new result = (answer : Result Tally TraceFault) × AnswersVectors Text text old new answer × (result ≡ in_trace answer)

-- ---- runs

-- a run that writes text and does not check its steps
abbrev pub plain : StepOptions
plain = record { form = Text; check = false }

-- The steps of a plan were made; or a word names no step, and then nothing is written.
abbrev pub MakesPlan : (old new : Option (List ℕ)) → (List Planned → Result Unit EndFault → Type 0) → Result (Vec Planned Global) EndFault → Result Unit ToolFault → Type 0
MakesPlan old new Runs (Ok plan) result = (answer : Result Unit EndFault) × Runs plan.items answer × (result ≡ in_run answer)
MakesPlan old new Runs (Err fault) result = (result ≡ Err (fault_of_run fault)) × Keeps old new

-- the result of a run of the steps that these words name
abbrev pub MakesWords : Ends → (words : List (List ℕ)) → (old new : Option (List ℕ)) → (List Planned → Result Unit EndFault → Type 0) → Result Unit ToolFault → Type 0
MakesWords ends words old new Runs result = (planned : Result (Vec Planned Global) EndFault) × PlansOrStops ends (words_of ends words) planned × MakesPlan old new Runs planned result

-- the result of a terminal that serves one till
abbrev pub ServesOne : (loose : Bool) → (tid : ℕ) → Verdict → Result Unit ToolFault → Type 0
ServesOne loose tid verdict result = (answer : Result Unit EndFault) × AnswersService (strictly (reading_of (lengths_by loose))) 1 tid verdict no_extras answer × (result ≡ in_run answer)
