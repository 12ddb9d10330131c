-- What a reporter becomes by the events of a trace, and what a report answers.
use Rattle.std.specs.Prelude.{◌≡◌, ℕ, List, [], ◌∷◌, ◌++◌, map, None, Result, Ok, Err}
use Rattle.std.specs.Str.Lines.{lines}
use Rattle.zvt_grammar.specs.Reading.{Reading}
use Rattle.zvt_apdu.specs.Message.{Message}
use Rattle.zvt_till.specs.declared.happenings.Happening.{Happening}
use Rattle.zvt_till.specs.declared.happenings.Happening.TheVariants.{Connected}
use Rattle.zvt_trace.specs.Emitting.{BrokenTrace, WholeTrace}
use Rattle.zvt_trace.specs.Listening.{Fails, Hears}
use Rattle.zvt_trace.specs.Pairs.{BothHear, OneFails}
use Rattle.zvt_trace.specs.TraceEvent.{At, Tallies}
use Rattle.zvt_trace.specs.declared.both.Both.{Both}
use Rattle.zvt_trace.specs.declared.fault.Tally.{Tally}
use Rattle.zvt_trace.specs.declared.fault.TraceFault.{TraceFault}
use Rattle.zvt_trace.specs.declared.fault.TraceFault.TheVariants.{Memory, Read, TooLong, Trace, Write}
use Rattle.zvt_trace.specs.declared.listener.ListenerError.TheVariants as failure
use Rattle.zvt_trace.specs.declared.listener.Scope.{Scope}
use Rattle.zvt_trace.specs.declared.moments.Moments.{Moments}
use Rattle.zvt_trace.specs.Moments.{times_of}
use Rattle.zvt_audit.specs.ByControl.{FailsBy, HearsBy, passed_after, seen}
use Rattle.zvt_audit.specs.Currencies.{agreed, currencies_of, named_after, named_by, one_currency}
use Rattle.zvt_audit.specs.declared.by_control.ByControl.{ByControl}
use Rattle.zvt_audit.specs.declared.currencies.NamedCurrency.TheVariants.{Absent}
use Rattle.zvt_report.specs.Chapters.{Noted, noted}
use Rattle.zvt_report.specs.Closings.{closings}
use Rattle.zvt_report.specs.Day.{day_of}
use Rattle.zvt_report.specs.Findings.{AreFindings, finds, wants_memory as find_memory}
use Rattle.zvt_report.specs.Judging.{DaySoFar, HasJudged}
use Rattle.zvt_report.specs.Reported.{beginning_in, beginnings, reported, with_event}
use Rattle.zvt_report.specs.Said.{AreSaidBy}
use Rattle.zvt_report.specs.Settling.{settled}
use Rattle.zvt_report.specs.Signs.{no_signs, sees, wants_memory as see_memory}
use Rattle.zvt_report.specs.Statements.{States, stated, statements_of}
use Rattle.zvt_report.specs.TerminalIds.{first_terminal, terminal_after, terminal_by}
use Rattle.zvt_report.specs.Times.{timed_day, times_by, times_in}
use Rattle.zvt_report.specs.declared.findings.Finder.{Finder}
use Rattle.zvt_report.specs.declared.findings.Finding.{Finding}
use Rattle.zvt_report.specs.declared.report.Report.{Report}
use Rattle.zvt_report.specs.declared.reporter.Reporter.{Reporter}
use Rattle.zvt_report.specs.declared.rows.OrderMessage.{OrderMessage}
use Rattle.zvt_report.specs.declared.signs.Signs.{Signs}
use Rattle.zvt_report.specs.declared.zones.Zone.{Zone}

-- ---- one event

-- the day of notes, after these happenings at a line
abbrev pub JudgesAll : (old : DaySoFar) → (line : ℕ) → List Happening → (new : DaySoFar) → Type 0
JudgesAll old line happened new = (notes : List Noted) → HasJudged notes old → HasJudged (notes ++ map (noted line) happened) new

-- the day of notes, after an event
abbrev pub Judges : (old : DaySoFar) → At → (new : DaySoFar) → Type 0
Judges old event new = (notes : List Noted) → HasJudged notes old → HasJudged (with_event notes event) new

-- what a reporter becomes by what happened at a line, apart from an order
abbrev pub ReportsBy : Reporter → (line : ℕ) → List Happening → Reporter → Type 0
ReportsBy old line happened new = JudgesAll old.day line happened new.day × (new.named ≡ old.named) × (new.messages.items ≡ old.messages.items) × (new.terminal ≡ old.terminal)

-- what is said by messages, and by one more if there is one
abbrev pub SaysMore : (old : List OrderMessage) → List Message → (new : List OrderMessage) → Type 0
SaysMore old more new = (messages : List Message) → AreSaidBy messages old → AreSaidBy (messages ++ more) new

-- what a reporter becomes by an event
abbrev pub Reports : Reporter → At → Reporter → Type 0
Reports old event new =
    Judges old.day event new.day × (new.named ≡ named_after old.named (named_by event.trace_event))
    × SaysMore old.messages.items (beginning_in event.trace_event) new.messages.items × States old.hearing event new.hearing
    × (new.terminal ≡ terminal_after old.terminal (terminal_by event.trace_event))

-- ---- a reporter as a listener

abbrev pub hears : Hears Reporter
hears old event new = Reports old event new

abbrev pub wants_memory : Fails Reporter
wants_memory old event why new = why ≡ failure.Memory

-- a reporter, and beside it what the messages say about the trace
abbrev pub hears_and_sees : Hears (Both Reporter Signs)
hears_and_sees old event new = BothHear hears sees event old.first old.second new.first new.second

abbrev pub one_wants_memory : Fails (Both Reporter Signs)
one_wants_memory old event why new = OneFails hears wants_memory see_memory event why old.first old.second new.first new.second

-- the same, where a refused message may be known by its control bytes
abbrev pub hears_by : Hears (ByControl (Both Reporter Signs))
hears_by = HearsBy hears_and_sees

abbrev pub wants_memory_by : Fails (ByControl (Both Reporter Signs))
wants_memory_by = FailsBy one_wants_memory

-- both, and beside them what finds the messages that can't be read
abbrev pub both_hear : Hears (Both (ByControl (Both Reporter Signs)) Finder)
both_hear old event new = BothHear hears_by finds event old.first old.second new.first new.second

abbrev pub both_want_memory : Fails (Both (ByControl (Both Reporter Signs)) Finder)
both_want_memory old event why new = OneFails hears_by wants_memory_by find_memory event why old.first old.second new.first new.second

-- the till is connected, and nothing else happened at it
abbrev pub IsConnected : Reporter → Type 0
IsConnected reporter =
    HasJudged (noted 0 Connected ∷ []) reporter.day × (reporter.named ≡ Absent) × (reporter.messages.items ≡ [])
    × (reporter.hearing.statements.items ≡ []) × (reporter.hearing.current ≡ None) × (reporter.terminal ≡ None)

-- no message was refused yet
abbrev pub StartsIn : Scope → ByControl (Both Reporter Signs) → Type 0
StartsIn scope by = IsConnected by.listener.first × (by.listener.second ≡ no_signs) × (by.scope ≡ scope) × (by.passed ≡ 0)

-- what a reporter finds at the end of a trace with these moments and findings
pub record Finds (reporter : Reporter) (counted : Tally) (skipped : ℕ) (zone : Zone) (moments : Moments) (found : List Finding) (report : Report) : Type 0 where
  pub tally : report.tally ≡ counted
  pub passed : report.passed ≡ skipped
  pub currency : report.currency ≡ agreed reporter.named
  pub terminal : report.terminal ≡ reporter.terminal
  pub books : (notes : List Noted) → HasJudged notes reporter.day → report.books ≡ timed_day zone moments.times.items (settled (stated reporter.hearing []) (day_of notes))
  pub times : report.times ≡ times_in zone moments.times.items moments.bad.items
  pub statements : report.statements.items ≡ stated reporter.hearing []
  pub closings : report.closings.items ≡ closings report.books.book report.statements.items report.messages.items report.books.orders
  pub messages : report.messages.items ≡ reporter.messages.items
  pub findings : report.findings.items ≡ found

-- ---- the answer

-- the report of what a till and its terminal did, with the times of the trace's lines on the clock of a zone
pub record IsReportOf (zone : Zone) (trace : List (List ℕ)) (events : List At) (report : Report) : Type 0 where
  pub currency : report.currency ≡ one_currency (currencies_of events)
  pub terminal : report.terminal ≡ first_terminal events
  pub books : report.books ≡ timed_day zone (times_of trace) (settled (statements_of events) (day_of (reported events)))
  pub times : report.times ≡ times_by zone trace
  pub statements : report.statements.items ≡ statements_of events
  pub closings : report.closings.items ≡ closings report.books.book report.statements.items report.messages.items report.books.orders
  pub messages : AreSaidBy (beginnings events) report.messages.items

-- What a report answers for a trace, by that reading of lengths, and with what a refusal leaves unread.
abbrev pub AnswersReport : Zone → Reading → Scope → (trace : List ℕ) → Result Report TraceFault → Type 0
AnswersReport zone r scope trace (Ok report) =
    (events : List At) × WholeTrace r scope (lines trace) events × Tallies report.tally events × IsReportOf zone (lines trace) (seen scope events) report
    × (report.passed ≡ passed_after scope 0 events) × AreFindings scope events report.findings.items
AnswersReport zone r scope trace (Err (Trace number what)) = (events : List At) × BrokenTrace r scope (lines trace) number what events
AnswersReport zone r scope trace (Err Memory) = Unit {0}
AnswersReport zone r scope trace (Err Write) = ⊥
AnswersReport zone r scope trace (Err TooLong) = ⊥
AnswersReport zone r scope trace (Err Read) = ⊥
