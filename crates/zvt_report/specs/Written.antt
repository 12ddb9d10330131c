-- What is written of a report.
use Rattle.std.specs.Prelude.{◌≡◌, ℕ, ◌+◌, ◌<◌, ◌≤◌, List, ◌++◌, length, Option, Result, Ok, Err}
use Rattle.std.specs.Io.KnownBytes.{Appends, Keeps}
use Rattle.std.specs.Str.Lines.{lines}
use Rattle.zvt_grammar.specs.Reading.{Reading}
use Rattle.zvt_trace.specs.Emitting.{BrokenTrace}
use Rattle.zvt_trace.specs.TraceEvent.{At}
use Rattle.zvt_trace.specs.Written.{AppendsPrefix, limit}
use Rattle.zvt_trace.specs.declared.fault.TraceFault.{TraceFault}
use Rattle.zvt_trace.specs.declared.fault.TraceFault.TheVariants.{Memory, Read, TooLong, Trace, Write}
use Rattle.zvt_trace.specs.declared.listener.Scope.{Scope}
use Rattle.zvt_report.specs.Dialogue.{IsDialogue}
use Rattle.zvt_report.specs.Findings.{urgent_findings}
use Rattle.zvt_report.specs.LookList.{urgent_count}
use Rattle.zvt_report.specs.Looks.{looks}
use Rattle.zvt_report.specs.JsonReport.{report_json}
use Rattle.zvt_report.specs.Reports.{AnswersReport}
use Rattle.zvt_report.specs.SlipWalk.{AreSlips}
use Rattle.zvt_report.specs.Page.{report_page}
use Rattle.zvt_report.specs.TextReport.{report_text}
use Rattle.zvt_report.specs.declared.cases.Look.{Look}
use Rattle.zvt_report.specs.declared.dialogue.Drawn.{Drawn}
use Rattle.zvt_report.specs.declared.form.ReportForm.{ReportForm}
use Rattle.zvt_report.specs.declared.form.ReportForm.TheVariants.{Text, Json, Page}
use Rattle.zvt_report.specs.declared.report.Report.{Report}
use Rattle.zvt_report.specs.declared.written.ReportSummary.{ReportSummary}
use Rattle.zvt_report.specs.declared.zones.Zone.{Zone}
use Rattle.zvt_report.specs.Zones.{utc}

-- ---- the text

-- objects have their times in UTC
abbrev pub zone_for : ReportForm → Zone → Zone
zone_for Text zone = zone
zone_for Json zone = utc
zone_for Page zone = zone

-- The text, the objects or the page of a report with these looks. Only the page has the name of the file, and links to
-- the lines that its dialogue shows.
abbrev pub report_in : ReportForm → (name : List ℕ) → Report → List Look → (shown drawn : List ℕ) → List ℕ
report_in Text name report found shown drawn = report_text report.tally report.currency report.terminal report.times report.books report.messages.items report.closings.items found report.findings.items
report_in Json name report found shown drawn = report_json report.tally report.currency report.terminal report.times report.books report.messages.items report.closings.items found report.findings.items drawn
report_in Page name report found shown drawn = report_page shown name report.tally report.currency report.terminal report.times report.books report.messages.items report.closings.items found report.findings.items drawn

-- the looks that its orders need
abbrev pub looks_of : Report → List Look
looks_of report = looks report.books.book report.closings.items report.statements.items report.messages.items report.books.orders

abbrev pub written : ReportForm → (name : List ℕ) → Report → Drawn → List ℕ
written form name report drawn = report_in form name report (looks_of report) drawn.lines.items drawn.text

-- ---- the events

-- the slips of a trace and then its dialogue, as far as the form has them
abbrev pub IsDrawn : Reading → Scope → (trace : List ℕ) → ReportForm → Report → List Look → Drawn → Type 0
IsDrawn r scope trace form report looks drawn =
    (slips : List ℕ) × AreSlips r scope trace form report looks slips × (dialogue : Drawn) × IsDialogue r scope trace form report looks dialogue
    × (drawn.text ≡ slips ++ dialogue.text) × (drawn.lines ≡ dialogue.lines)

abbrev pub AnswersDrawn : Reading → Scope → (trace : List ℕ) → ReportForm → Report → List Look → Result Drawn TraceFault → Type 0
AnswersDrawn r scope trace form report looks (Ok drawn) = IsDrawn r scope trace form report looks drawn
AnswersDrawn r scope trace form report looks (Err (Trace number what)) = (events : List At) × BrokenTrace r scope (lines trace) number what events
AnswersDrawn r scope trace form report looks (Err Memory) = Unit {0}
AnswersDrawn r scope trace form report looks (Err Write) = ⊥
AnswersDrawn r scope trace form report looks (Err TooLong) = ⊥
AnswersDrawn r scope trace form report looks (Err Read) = ⊥

-- ---- the summary

-- the orders and the findings that someone must act on
abbrev pub acts_of : Report → ℕ
acts_of report = urgent_count (looks_of report) + urgent_findings report.findings.items

abbrev pub summed_up : Report → ReportSummary
summed_up report = record { tally = report.tally; acts = acts_of report; passed = report.passed }

-- ---- the answer

-- What the writing of a report in that form answers. If a write failed, a prefix of the text is written.
abbrev pub AnswersFound : ReportForm → (name : List ℕ) → Report → Drawn → (old new : Option (List ℕ)) → Result ReportSummary TraceFault → Type 0
AnswersFound form name report drawn old new (Ok summary) = Appends old new (written form name report drawn) × (summary ≡ summed_up report)
AnswersFound form name report drawn old new (Err Memory) = Keeps old new
AnswersFound form name report drawn old new (Err Write) = AppendsPrefix old new (written form name report drawn)
AnswersFound form name report drawn old new (Err (Trace number what)) = ⊥
AnswersFound form name report drawn old new (Err TooLong) = ⊥
AnswersFound form name report drawn old new (Err Read) = ⊥

-- What a report answers that is written in this form, by that reading of lengths, and with what a refusal leaves unread. If it
-- fails, nothing is written, but of a write that failed a prefix of the text.
abbrev pub AnswersWritten : Reading → Scope → ReportForm → Zone → (name : List ℕ) → (trace : List ℕ) → (old new : Option (List ℕ)) → Result ReportSummary TraceFault → Type 0
AnswersWritten r scope form zone name trace old new (Ok summary) =
    (report : Report) × AnswersReport (zone_for form zone) r scope trace (Ok report) × (drawn : Drawn) × IsDrawn r scope trace form report (looks_of report) drawn
    × Appends old new (written form name report drawn) × (summary ≡ summed_up report)
AnswersWritten r scope form zone name trace old new (Err (Trace number what)) = AnswersReport (zone_for form zone) r scope trace (Err (Trace number what)) × Keeps old new
AnswersWritten r scope form zone name trace old new (Err Memory) = Keeps old new
AnswersWritten r scope form zone name trace old new (Err Write) =
    (report : Report) × AnswersReport (zone_for form zone) r scope trace (Ok report) × (drawn : Drawn) × IsDrawn r scope trace form report (looks_of report) drawn
    × AppendsPrefix old new (written form name report drawn)
AnswersWritten r scope form zone name trace old new (Err TooLong) = ⊥
AnswersWritten r scope form zone name trace old new (Err Read) = ⊥

-- The same for a trace that is read first, and may be too long.
abbrev pub AnswersReadWritten : Reading → Scope → ReportForm → Zone → (name : List ℕ) → (trace : List ℕ) → (old new : Option (List ℕ)) → Result ReportSummary TraceFault → Type 0
AnswersReadWritten r scope form zone name trace old new (Ok summary) = (length trace ≤ limit) × AnswersWritten r scope form zone name trace old new (Ok summary)
AnswersReadWritten r scope form zone name trace old new (Err (Trace number what)) = (length trace ≤ limit) × AnswersWritten r scope form zone name trace old new (Err (Trace number what))
AnswersReadWritten r scope form zone name trace old new (Err Write) = (length trace ≤ limit) × AnswersWritten r scope form zone name trace old new (Err Write)
AnswersReadWritten r scope form zone name trace old new (Err TooLong) = (limit < length trace) × Keeps old new
AnswersReadWritten r scope form zone name trace old new (Err Read) = Keeps old new
AnswersReadWritten r scope form zone name trace old new (Err Memory) = Keeps old new
