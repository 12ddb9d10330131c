-- What an audit answers and writes.
use Rattle.std.specs.Prelude.{◌≡◌, ℕ, ◌<◌, ◌≤◌, Bool, false, not, ◌&&◌, List, [], ◌∷◌, ◌++◌, length, Option, None, Result, Ok, Err}
use Rattle.std.specs.Io.KnownBytes.{Appends, IsAtEnd, Keeps}
use Rattle.std.specs.Str.Lines.{lines}
use Rattle.zvt_grammar.specs.Reading.{Reading, shortest}
use Rattle.zvt_till.specs.Books.{Books, books}
use Rattle.zvt_till.specs.Judging.{BooksSoFar, HasJudged}
use Rattle.zvt_till.specs.declared.happenings.Happening.{Happening}
use Rattle.zvt_till.specs.declared.happenings.Happening.TheVariants.{Connected}
use Rattle.zvt_trace.specs.Chunks.{IsTooLong}
use Rattle.zvt_trace.specs.Listening.{Fails, Hears}
use Rattle.zvt_trace.specs.TraceEvent.{At, Tallies}
use Rattle.zvt_trace.specs.Emitting.{BrokenTrace, WholeTrace}
use Rattle.zvt_trace.specs.Written.{AppendsPrefix, limit}
use Rattle.zvt_trace.specs.declared.fault.Tally.{Tally}
use Rattle.zvt_trace.specs.declared.fault.TraceFault.{TraceFault}
use Rattle.zvt_trace.specs.declared.fault.TraceFault.TheVariants.{Memory, Read, TooLong, Trace, Write}
use Rattle.zvt_trace.specs.declared.listener.ListenerError.TheVariants as failure
use Rattle.zvt_trace.specs.declared.listener.Scope.{Scope}
use Rattle.zvt_trace.specs.declared.listener.Scope.TheVariants.{WholeLine}
use Rattle.zvt_audit.specs.Booked.{books_text, total}
use Rattle.zvt_audit.specs.ByControl.{FailsBy, HearsBy, passed_after, seen}
use Rattle.zvt_audit.specs.Currencies.{currencies_of, named_after, named_by, one_currency}
use Rattle.zvt_audit.specs.Ends.{AreEndLines, Lines, lines_of}
use Rattle.zvt_audit.specs.Happened.{happenings_of, log_of}
use Rattle.zvt_audit.specs.Json.{books_in}
use Rattle.zvt_audit.specs.Orders.{are_swapped, noticed}
use Rattle.zvt_audit.specs.Unfollowed.{Finds, FindsBy, unfollowed_in}
use Rattle.zvt_text.specs.declared.form.Form.{Form}
use Rattle.zvt_audit.specs.declared.auditor.Auditor.{Auditor}
use Rattle.zvt_audit.specs.declared.by_control.ByControl.{ByControl}
use Rattle.zvt_audit.specs.declared.currencies.NamedCurrency.TheVariants.{Absent}
use Rattle.zvt_audit.specs.declared.orders.Orders.{Orders}
use Rattle.zvt_audit.specs.declared.unfollowed.UnfollowedOrder.{UnfollowedOrder}
use Rattle.zvt_audit.specs.declared.summary.AuditSummary.{AuditSummary}

-- the books of a log, after these further happenings
abbrev pub Takes : (old new : BooksSoFar) → List Happening → Type 0
Takes old new happened = (log : List Happening) → HasJudged log old → HasJudged (log ++ happened) new

-- the auditor's till is connected, and nothing else happened at it
abbrev pub IsConnected : Auditor → Type 0
IsConnected auditor =
    HasJudged (Connected ∷ []) auditor.books × (auditor.orders.till ≡ false) × (auditor.orders.terminal ≡ false) × (auditor.named ≡ Absent)
    × AreEndLines [] (lines_of auditor.ends) × (auditor.unfollowed.settled.items ≡ []) × (auditor.unfollowed.waiting ≡ None)

-- each event keeps its line, also after an event of this line
abbrev pub KeepsEnds : Auditor → List Happening → (line : ℕ) → Auditor → Type 0
KeepsEnds old happened line new =
    (before : List At) (event : At) → happenings_of event.trace_event ≡ happened → event.line ≡ line
    → HasJudged (log_of before) old.books → AreEndLines before (lines_of old.ends) → AreEndLines (before ++ event ∷ []) (lines_of new.ends)

-- what an auditor becomes by what happened at a line that is no order
abbrev pub BecomesBy : Auditor → List Happening → (line : ℕ) → Auditor → Type 0
BecomesBy old happened line new =
    Takes old.books new.books happened × (new.orders ≡ old.orders) × (new.named ≡ old.named) × KeepsEnds old happened line new × FindsBy old.unfollowed happened new.unfollowed

-- what an auditor becomes by an event
abbrev pub Becomes : Auditor → At → Auditor → Type 0
Becomes old event new =
    Takes old.books new.books (happenings_of event.trace_event) × (new.orders ≡ noticed old.orders event.trace_event)
    × (new.named ≡ named_after old.named (named_by event.trace_event)) × KeepsEnds old (happenings_of event.trace_event) event.line new
    × Finds old.unfollowed event new.unfollowed

-- orders came from where the terminal is said to be, and none from where the till is
abbrev pub has_swapped : Orders → Bool
has_swapped orders = not orders.till && orders.terminal

-- the booked total, and the number of unclear payments
pub record SumsUp (audited : AuditSummary) (found : Books) : Type 0 where
  pub total : audited.total ≡ total found.booked
  pub unclear : audited.unclear ≡ length found.unclear

-- What writing the books of a log in that form answers.
abbrev pub AnswersBooks : Form → List Happening → Tally → Orders → List UnfollowedOrder → (currency : Option ℕ) → Lines → (passed : ℕ) → (old new : Option (List ℕ)) → Result AuditSummary TraceFault → Type 0
AnswersBooks form log tally orders unfollowed currency lines passed old new (Ok audited) = Appends old new (books_in form tally currency lines unfollowed (books log)) × (audited.tally ≡ tally) × (audited.swapped ≡ has_swapped orders) × SumsUp audited (books log) × (audited.unfollowed.items ≡ unfollowed) × (audited.passed ≡ passed)
AnswersBooks form log tally orders unfollowed currency lines passed old new (Err Memory) = Keeps old new
AnswersBooks form log tally orders unfollowed currency lines passed old new (Err Write) = AppendsPrefix old new (books_in form tally currency lines unfollowed (books log))
AnswersBooks form log tally orders unfollowed currency lines passed old new (Err (Trace number what)) = ⊥
AnswersBooks form log tally orders unfollowed currency lines passed old new (Err TooLong) = ⊥
AnswersBooks form log tally orders unfollowed currency lines passed old new (Err Read) = ⊥

-- ---- an auditor as a listener

-- what an event makes of it, and how it fails
abbrev pub hears : Hears Auditor
hears old event new = Becomes old event new

abbrev pub wants_memory : Fails Auditor
wants_memory old event why new = why ≡ failure.Memory

-- the same, where a refused message may be known by its control bytes
abbrev pub hears_by : Hears (ByControl Auditor)
hears_by = HearsBy hears

abbrev pub wants_memory_by : Fails (ByControl Auditor)
wants_memory_by = FailsBy wants_memory

-- no message was refused yet
abbrev pub StartsIn : Scope → ByControl Auditor → Type 0
StartsIn scope by = IsConnected by.listener × (by.scope ≡ scope) × (by.passed ≡ 0)

-- the device has besides the text of the books of what the trace emits, by that reading of lengths
abbrev pub WritesBooks : Reading → (trace : List ℕ) → Tally → (old new : Option (List ℕ)) → Type 0
WritesBooks r trace tally old new =
    (events : List At) × WholeTrace r WholeLine (lines trace) events × Appends old new (books_text (books (log_of events))) × Tallies tally events

-- What an audit answers for a trace that was read, in that form, by that reading of lengths, and with what a refusal leaves unread.
-- Where it fails nothing is written, but of a write that failed a prefix of the text.
abbrev pub AnswersReadBy : Reading → Scope → Form → (trace : List ℕ) → (old new : Option (List ℕ)) → Result AuditSummary TraceFault → Type 0
AnswersReadBy r scope form trace old new (Ok audited) =
    (events : List At) × (ends : Lines) × WholeTrace r scope (lines trace) events × AreEndLines (seen scope events) ends
    × Appends old new (books_in form audited.tally (one_currency (currencies_of (seen scope events))) ends (unfollowed_in (seen scope events)) (books (log_of (seen scope events))))
    × Tallies audited.tally events × (audited.swapped ≡ are_swapped (seen scope events)) × SumsUp audited (books (log_of (seen scope events)))
    × (audited.unfollowed.items ≡ unfollowed_in (seen scope events)) × (audited.passed ≡ passed_after scope 0 events)
AnswersReadBy r scope form trace old new (Err (Trace number what)) = (events : List At) × BrokenTrace r scope (lines trace) number what events × Keeps old new
AnswersReadBy r scope form trace old new (Err Memory) = Keeps old new
AnswersReadBy r scope form trace old new (Err Write) =
    (events : List At) × (tally : Tally) × (ends : Lines) × WholeTrace r scope (lines trace) events × AreEndLines (seen scope events) ends
    × AppendsPrefix old new (books_in form tally (one_currency (currencies_of (seen scope events))) ends (unfollowed_in (seen scope events)) (books (log_of (seen scope events)))) × Tallies tally events
AnswersReadBy r scope form trace old new (Err TooLong) = ⊥
AnswersReadBy r scope form trace old new (Err Read) = ⊥

-- What an audit answers for a trace of known bytes, which may be too long, by that reading of lengths.
abbrev pub AnswersAuditBy : Reading → (trace : List ℕ) → (old new : Option (List ℕ)) → Result Tally TraceFault → Type 0
AnswersAuditBy r trace old new (Ok tally) = (length trace ≤ limit) × WritesBooks r trace tally old new
AnswersAuditBy r trace old new (Err (Trace number what)) = (length trace ≤ limit) × (events : List At) × BrokenTrace r WholeLine (lines trace) number what events × Keeps old new
AnswersAuditBy r trace old new (Err TooLong) = (limit < length trace) × Keeps old new
AnswersAuditBy r trace old new (Err Read) = Keeps old new
AnswersAuditBy r trace old new (Err Memory) = Keeps old new
AnswersAuditBy r trace old new (Err Write) =
    (length trace ≤ limit) × (events : List At) × WholeTrace r WholeLine (lines trace) events × AppendsPrefix old new (books_text (books (log_of events)))

-- what a strict audit answers
abbrev pub AnswersAudit : (trace : List ℕ) → (old new : Option (List ℕ)) → Result Tally TraceFault → Type 0
AnswersAudit trace old new answer = AnswersAuditBy shortest trace old new answer

-- What an audit of a trace answers that comes piece by piece, once these bytes of it were taken. Where a line is too long, or a read fails, nothing is written.
abbrev pub AnswersFollowed : Reading → Scope → Form → (taken : List ℕ) → (rest old new : Option (List ℕ)) → Result AuditSummary TraceFault → Type 0
AnswersFollowed r scope form taken rest old new (Ok audited) = AnswersReadBy r scope form taken old new (Ok audited) × IsAtEnd rest
AnswersFollowed r scope form taken rest old new (Err (Trace number what)) = AnswersReadBy r scope form taken old new (Err (Trace number what))
AnswersFollowed r scope form taken rest old new (Err Memory) = Keeps old new
AnswersFollowed r scope form taken rest old new (Err Write) = AnswersReadBy r scope form taken old new (Err Write)
AnswersFollowed r scope form taken rest old new (Err TooLong) = ((events : List At) × IsTooLong r scope taken events) × Keeps old new
AnswersFollowed r scope form taken rest old new (Err Read) = Keeps old new
