-- What a report that is found and written answers.
use Rattle.std.proofs.Common.{◌≡◌, ℕ, ◌≤◌, ◌++◌, List, Option, Some, None, IfSome, Result, Ok, Err, length, subst, sym, ap, ◌∙◌}
use Rattle.zvt_grammar.specs.Reading.{Reading}
use Rattle.zvt_trace.specs.Written.{limit}
use Rattle.zvt_trace.specs.declared.fault.TraceFault.{TraceFault}
use Rattle.zvt_trace.specs.declared.fault.TraceFault.TheVariants.{Memory, Read, TooLong, Trace, Write}
use Rattle.zvt_trace.specs.declared.listener.Scope.{Scope}
use Rattle.zvt_audit.proofs.AuditLemmas.{keeps_same}
use Rattle.zvt_report.specs.Reports.{AnswersReport}
use Rattle.zvt_report.specs.Dialogue.{AnswersDialogue, IsDialogue}
use Rattle.zvt_report.specs.SlipWalk.{AnswersSlips, AreSlips}
use Rattle.zvt_report.specs.Written.{AnswersDrawn, AnswersFound, AnswersReadWritten, AnswersWritten, IsDrawn, looks_of, zone_for}
use Rattle.zvt_report.specs.declared.cases.Look.{Look}
use Rattle.zvt_report.specs.declared.dialogue.Drawn.{Drawn}
use Rattle.zvt_report.specs.declared.form.ReportForm.{ReportForm}
use Rattle.zvt_report.specs.declared.report.Report.{Report}
use Rattle.zvt_report.specs.declared.written.ReportSummary.{ReportSummary}
use Rattle.zvt_report.specs.declared.zones.Zone.{Zone}

-- the looks are lent
pub drawn_is : (r : Reading) (scope : Scope) (form : ReportForm) (trace : List ℕ) (report : Report) (looks : List Look) (drawn : Drawn)
    → looks ≡ looks_of report → IsDrawn r scope trace form report looks drawn → IsDrawn r scope trace form report (looks_of report) drawn
drawn_is r scope form trace report looks drawn same is = subst (λ (l : List Look). IsDrawn r scope trace form report l drawn) same is

-- the slips are written before the dialogue
pub drawn_both : (r : Reading) (scope : Scope) (form : ReportForm) (trace : List ℕ) (report : Report) (looks : List Look) (slips lent : List ℕ) (dialogue drawn : Drawn)
    → AreSlips r scope trace form report looks slips → IsDialogue r scope trace form report looks dialogue → lent ≡ dialogue.text → drawn.text ≡ slips ++ lent → drawn.lines ≡ dialogue.lines → IsDrawn r scope trace form report looks drawn
drawn_both r scope form trace report looks slips lent dialogue drawn printed told same is kept = (slips, printed, dialogue, told, is ∙ ap (λ (l : List ℕ). slips ++ l) same, kept)

pub found_written : (r : Reading) (scope : Scope) (form : ReportForm) (zone : Zone) (name : List ℕ) (trace : List ℕ) (report : Report) (drawn : Drawn) (old new : Option (List ℕ)) (result : Result ReportSummary TraceFault)
    → AnswersReport (zone_for form zone) r scope trace (Ok report) → IsDrawn r scope trace form report (looks_of report) drawn → AnswersFound form name report drawn old new result → AnswersWritten r scope form zone name trace old new result
found_written r scope form zone name trace report drawn old new (Ok summary) answers is (appends, sum) = (report, answers, drawn, is, appends, sum)
found_written r scope form zone name trace report drawn old new (Err Memory) answers is kept = kept
found_written r scope form zone name trace report drawn old new (Err Write) answers is prefix = (report, answers, drawn, is, prefix)
found_written r scope form zone name trace report drawn old new (Err (Trace number what)) answers is never = absurd never
found_written r scope form zone name trace report drawn old new (Err TooLong) answers is never = absurd never
found_written r scope form zone name trace report drawn old new (Err Read) answers is never = absurd never

-- what failed is the reading of the slips, or of the dialogue
pub no_slips : (r : Reading) (scope : Scope) (form : ReportForm) (trace : List ℕ) (report : Report) (looks : List Look) (fault : TraceFault)
    → AnswersSlips r scope trace form report looks (Err fault) → AnswersDrawn r scope trace form report looks (Err fault)
no_slips r scope form trace report looks (Trace number what) broken = broken
no_slips r scope form trace report looks Memory done = tt
no_slips r scope form trace report looks Write never = absurd never
no_slips r scope form trace report looks TooLong never = absurd never
no_slips r scope form trace report looks Read never = absurd never

pub no_dialogue : (r : Reading) (scope : Scope) (form : ReportForm) (trace : List ℕ) (report : Report) (looks : List Look) (fault : TraceFault)
    → AnswersDialogue r scope trace form report looks (Err fault) → AnswersDrawn r scope trace form report looks (Err fault)
no_dialogue r scope form trace report looks (Trace number what) broken = broken
no_dialogue r scope form trace report looks Memory done = tt
no_dialogue r scope form trace report looks Write never = absurd never
no_dialogue r scope form trace report looks TooLong never = absurd never
no_dialogue r scope form trace report looks Read never = absurd never

-- the events could not be read again, before anything was written
pub none_written : (r : Reading) (scope : Scope) (form : ReportForm) (zone : Zone) (name : List ℕ) (trace : List ℕ) (report : Report) (looks : List Look) (held : Option (List ℕ)) (fault : TraceFault)
    → AnswersDrawn r scope trace form report looks (Err fault) → AnswersWritten r scope form zone name trace held held (Err fault)
none_written r scope form zone name trace report looks held (Trace number what) broken = (broken, keeps_same held)
none_written r scope form zone name trace report looks held Memory done = keeps_same held
none_written r scope form zone name trace report looks held Write never = absurd never
none_written r scope form zone name trace report looks held TooLong never = absurd never
none_written r scope form zone name trace report looks held Read never = absurd never

short_written : (r : Reading) (scope : Scope) (form : ReportForm) (zone : Zone) (name : List ℕ) (trace : List ℕ) (old new : Option (List ℕ)) (result : Result ReportSummary TraceFault)
    → length trace ≤ limit → AnswersWritten r scope form zone name trace old new result → AnswersReadWritten r scope form zone name trace old new result
short_written r scope form zone name trace old new (Ok summary) few answers = (few, answers)
short_written r scope form zone name trace old new (Err Memory) few kept = kept
short_written r scope form zone name trace old new (Err Write) few answers = (few, answers)
short_written r scope form zone name trace old new (Err (Trace number what)) few answers = (few, answers)
short_written r scope form zone name trace old new (Err TooLong) few never = absurd never
short_written r scope form zone name trace old new (Err Read) few never = absurd never

-- the trace is what was left of the reader
pub read_written : (r : Reading) (scope : Scope) (form : ReportForm) (zone : Zone) (name : List ℕ) (left : Option (List ℕ)) (read given : List ℕ) (old new : Option (List ℕ)) (result : Result ReportSummary TraceFault)
    → IfSome left (λ bytes. read ≡ bytes) → length read ≤ limit → given ≡ read → AnswersWritten r scope form zone name given old new result
    → IfSome left (λ trace. AnswersReadWritten r scope form zone name trace old new result)
read_written r scope form zone name None read given old new result is few same answers = tt
read_written r scope form zone name (Some trace) read given old new result is few same answers =
    short_written r scope form zone name trace old new result (subst (λ (t : List ℕ). length t ≤ limit) is few)
    (subst (λ (t : List ℕ). AnswersWritten r scope form zone name t old new result) (same ∙ is) answers)
