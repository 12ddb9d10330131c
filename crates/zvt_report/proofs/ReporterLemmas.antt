-- What a reporter becomes by an event, and what it finds after all events.
use Rattle.std.proofs.Common.{◌≡◌, inl, inr, ℕ, List, [], ◌∷◌, ◌++◌, Option, Some, None, Ok, Err, fold, map, refl, sym, ◌∙◌, ap, ap₂, subst, append_assoc, append-nil}
use Rattle.std.specs.List.{cons_option}
use Rattle.std.specs.Option.{option_or}
use Rattle.std.specs.Str.Lines.{lines}
use Rattle.zvt_grammar.specs.Reading.{Reading}
use Rattle.zvt_apdu.specs.Message.{Message}
use Rattle.zvt_till.specs.declared.entries.Entry.{Entry}
use Rattle.zvt_till.specs.declared.happenings.Happening.{Happening}
use Rattle.zvt_till.specs.declared.happenings.Happening.TheVariants.{Connected}
use Rattle.zvt_trace.specs.Emitting.{EventsSoFar}
use Rattle.zvt_trace.specs.Listening.{AnswersWalk, HearsAll, Stops}
use Rattle.zvt_trace.specs.TraceEvent.{At, Tallies}
use Rattle.zvt_trace.specs.declared.both.Both.{Both}
use Rattle.zvt_trace.specs.declared.fault.Tally.{Tally}
use Rattle.zvt_trace.specs.declared.fault.TraceFault.{TraceFault}
use Rattle.zvt_trace.specs.declared.fault.TraceFault.TheVariants.{Memory, Read, TooLong, Trace, Write}
use Rattle.zvt_trace.specs.declared.listener.ListenerError.TheVariants as failure
use Rattle.zvt_trace.specs.declared.listener.Scope.{Scope}
use Rattle.zvt_audit.specs.ByControl.{passed_after, seen}
use Rattle.zvt_audit.specs.Currencies.{agreed, currencies_of, named_after, named_by, one_currency}
use Rattle.zvt_audit.specs.declared.by_control.ByControl.{ByControl}
use Rattle.zvt_audit.specs.declared.currencies.NamedCurrency.{NamedCurrency}
use Rattle.zvt_audit.specs.declared.currencies.NamedCurrency.TheVariants.{Absent}
use Rattle.zvt_audit.proofs.ControlLemmas.{all_seen}
use Rattle.zvt_audit.proofs.CurrencyLemmas.{after_all, all_agreed, one_more}
use Rattle.zvt_report.specs.Chapters.{Noted, noted}
use Rattle.zvt_report.specs.Day.{day_of}
use Rattle.zvt_report.specs.Findings.{AreApprovals, bad_messages, currencies, finding_at, listed, swapped, swapped_if}
use Rattle.zvt_report.specs.Judging.{DaySoFar, HasJudged}
use Rattle.zvt_report.specs.Reported.{beginning_in, beginnings, happenings_with, reported, with_event}
use Rattle.zvt_report.specs.Reports.{AnswersReport, Finds, JudgesAll, Judges, Reports, ReportsBy, SaysMore, StartsIn, both_hear, both_want_memory, hears, hears_and_sees, hears_by}
use Rattle.zvt_report.specs.Said.{AreSaidBy, IsSaidBy}
use Rattle.zvt_report.specs.Settling.{settled}
use Rattle.zvt_report.specs.TerminalIds.{first_terminal, terminal_after, terminal_by}
use Rattle.zvt_report.specs.Times.{timed_day, times_in}
use Rattle.zvt_report.specs.declared.zones.Zone.{Zone}
use Rattle.zvt_trace.specs.Moments.{bad_marks_of, times_of}
use Rattle.zvt_trace.specs.declared.moments.Moments.{Moments}
use Rattle.zvt_trace.specs.declared.moments.Timed.{Timed}
use Rattle.zvt_report.specs.Signs.{currencies_by, sees}
use Rattle.zvt_report.specs.Statements.{States, stated}
use Rattle.zvt_report.specs.declared.findings.Finder.{Finder}
use Rattle.zvt_report.specs.declared.findings.Finding.{Finding}
use Rattle.zvt_report.specs.declared.report.Report.{Report}
use Rattle.zvt_report.specs.declared.reporter.Reporter.{Reporter}
use Rattle.zvt_report.specs.declared.rows.OrderMessage.{OrderMessage}
use Rattle.zvt_report.specs.declared.signs.Signs.{Signs}
use Rattle.zvt_report.specs.declared.statements.Statement.{Statement}
use Rattle.zvt_report.proofs.SignLemmas.{currencies_seen, swapped_seen}
use Rattle.zvt_report.proofs.StatementLemmas.{starts_stated}

-- ---- one event

-- nothing happened
pub judges_none : (day : DaySoFar) (line : ℕ) → JudgesAll day line [] day
judges_none day line = λ notes judged. subst (λ (l : List Noted). HasJudged l day) (sym (append-nil notes)) judged

-- one thing after another
pub judges_more : (a b c : DaySoFar) (line : ℕ) (first : Happening) (more : List Happening) → JudgesAll a line (first ∷ []) b → JudgesAll b line more c → JudgesAll a line (first ∷ more) c
judges_more a b c line first more one then =
    λ notes judged. subst (λ (l : List Noted). HasJudged l c) (append_assoc notes (noted line first ∷ []) (map (noted line) more)) (then (notes ++ noted line first ∷ []) (one notes judged))

-- what happened does not depend on the book
pub judges_by : (old new : DaySoFar) (event : At) (happened : List Happening) → ((book : List Entry) → happenings_with book event.trace_event ≡ happened) → JudgesAll old event.line happened new → Judges old event new
judges_by old new event happened same all =
    λ notes judged. subst (λ (l : List Happening). HasJudged (notes ++ map (noted event.line) l) new) (sym (same (day_of notes).book)) (all notes judged)

-- nothing more is said
says_none : (old new : List OrderMessage) (more : List Message) → more ≡ [] → new ≡ old → SaysMore old more new
says_none old new more none same =
    λ messages said. subst (λ (l : List OrderMessage). AreSaidBy (messages ++ more) l) (sym same) (subst (λ (l : List Message). AreSaidBy l old) (sym (ap (λ (l : List Message). messages ++ l) none ∙ append-nil messages)) said)

-- an event that is no order
pub reports_by : (old new : Reporter) (event : At) (happened : List Happening) → ((book : List Entry) → happenings_with book event.trace_event ≡ happened) → named_by event.trace_event ≡ None → beginning_in event.trace_event ≡ [] → terminal_by event.trace_event ≡ None
    → ReportsBy old event.line happened new → States old.hearing event new.hearing → Reports old event new
reports_by old new event happened same unnamed none silent (judged, named, messages, terminal) states = (
  judges_by old.day new.day event happened same judged,
  named ∙ ap (named_after old.named) (sym unnamed),
  says_none old.messages.items new.messages.items (beginning_in event.trace_event) none messages,
  states,
  terminal ∙ ap (terminal_after old.terminal) (sym silent),
)

-- an event by which nothing happened
pub reports_same : (old : Reporter) (event : At) → ((book : List Entry) → happenings_with book event.trace_event ≡ []) → named_by event.trace_event ≡ None → beginning_in event.trace_event ≡ [] → terminal_by event.trace_event ≡ None
    → States old.hearing event old.hearing → Reports old event old
reports_same old event same unnamed none silent states = reports_by old old event [] same unnamed none silent (judges_none old.day event.line, refl, refl, refl) states

-- ---- all events

pub all_judged : (events : List At) (old new : Reporter) (notes : List Noted) → HasJudged notes old.day → HearsAll hears old events new → HasJudged (fold with_event notes events) new.day
all_judged [] old new notes judged same = subst (λ (s : Reporter). HasJudged notes s.day) (sym same) judged
all_judged (event ∷ events) old new notes judged some = all_judged events some.0 new (with_event notes event) (some.1.0 notes judged) some.2

pub all_named : (events : List At) (old new : Reporter) → HearsAll hears old events new → new.named ≡ after_all old.named (currencies_of events)
all_named [] old new same = ap (λ (s : Reporter). s.named) same
all_named (event ∷ events) old new some =
    all_named events some.0 new some.2 ∙ ap (λ (n : NamedCurrency). after_all n (currencies_of events)) some.1.1 ∙ one_more old.named (named_by event.trace_event) (currencies_of events)

currency_heard : (events : List At) (old new : Reporter) → old.named ≡ Absent → HearsAll hears old events new → agreed new.named ≡ one_currency (currencies_of events)
currency_heard events old new unnamed heard =
    ap agreed (all_named events old new heard ∙ ap (λ (n : NamedCurrency). after_all n (currencies_of events)) unnamed) ∙ all_agreed (currencies_of events)

pub all_said : (events : List At) (old new : Reporter) (messages : List Message) → AreSaidBy messages old.messages.items → HearsAll hears old events new → AreSaidBy (messages ++ beginnings events) new.messages.items
all_said [] old new messages said same =
    subst (λ (s : Reporter). AreSaidBy (messages ++ []) s.messages.items) (sym same) (subst (λ (l : List Message). AreSaidBy l old.messages.items) (sym (append-nil messages)) said)
all_said (event ∷ events) old new messages said some =
    subst (λ (l : List Message). AreSaidBy l new.messages.items) (append_assoc messages (beginning_in event.trace_event) (beginnings events))
    (all_said events some.0 new (messages ++ beginning_in event.trace_event) (some.1.2 messages said) some.2)

-- what was stated about the orders
pub all_stated : (events : List At) (old new : Reporter) → HearsAll hears old events new → stated new.hearing [] ≡ stated old.hearing events
all_stated [] old new same = ap (λ (s : Reporter). stated s.hearing []) same
all_stated (event ∷ events) old new some = all_stated events some.0 new some.2 ∙ some.1.3 events

-- the first of two is the first of three
named_first : (before found more : Option (List ℕ)) → option_or (terminal_after before found) more ≡ option_or before (option_or found more)
named_first None None more = refl
named_first None (Some id) more = refl
named_first (Some first) None more = refl
named_first (Some first) (Some id) more = refl

-- the first terminal identifier
pub all_identified : (events : List At) (old new : Reporter) → HearsAll hears old events new → new.terminal ≡ option_or old.terminal (first_terminal events)
all_identified [] old new same = ap (λ (s : Reporter). s.terminal) same ∙ named_none old.terminal
  where
    named_none : (before : Option (List ℕ)) → before ≡ option_or before None
    named_none None = refl
    named_none (Some id) = refl
all_identified (event ∷ events) old new some =
    all_identified events some.0 new some.2 ∙ ap (λ (t : Option (List ℕ)). option_or t (first_terminal events)) some.1.4
    ∙ named_first old.terminal (terminal_by event.trace_event) (first_terminal events)

-- one more message says this
pub said_more : (messages : List Message) (m : Message) (old : List OrderMessage) (said : OrderMessage) → AreSaidBy messages old → IsSaidBy m said → AreSaidBy (messages ++ m ∷ []) (old ++ said ∷ [])
said_more [] m [] said before is = (is, tt)
said_more [] m (first ∷ old) said never is = absurd never
said_more (first ∷ messages) m [] said never is = absurd never
said_more (first ∷ messages) m (other ∷ old) said before is = (before.0, said_more messages m old said before.1 is)

-- ---- what is found beside it

first_heard : (events : List At) (old new : Both (ByControl (Both Reporter Signs)) Finder) → HearsAll both_hear old events new → HearsAll hears_by old.first events new.first
first_heard [] old new same = ap (λ (b : Both (ByControl (Both Reporter Signs)) Finder). b.first) same
first_heard (event ∷ events) old new (middle, heard, rest) = (middle.first, heard.0, first_heard events middle new rest)

reporter_heard : (events : List At) (old new : Both Reporter Signs) → HearsAll hears_and_sees old events new → HearsAll hears old.first events new.first
reporter_heard [] old new same = ap (λ (b : Both Reporter Signs). b.first) same
reporter_heard (event ∷ events) old new (middle, heard, rest) = (middle.first, heard.0, reporter_heard events middle new rest)

signs_seen : (events : List At) (old new : Both Reporter Signs) → HearsAll hears_and_sees old events new → HearsAll sees old.second events new.second
signs_seen [] old new same = ap (λ (b : Both Reporter Signs). b.second) same
signs_seen (event ∷ events) old new (middle, heard, rest) = (middle.second, heard.1, signs_seen events middle new rest)

one_first : (o : Option Finding) (more : List Finding) → cons_option o [] ++ more ≡ cons_option o more
one_first None more = refl
one_first (Some f) more = refl

-- what was found so far, and then in these events
all_found : (scope : Scope) (events : List At) (old new : Both (ByControl (Both Reporter Signs)) Finder) → old.second.scope ≡ scope → HearsAll both_hear old events new
    → new.second.found.items ≡ old.second.found.items ++ bad_messages scope events
all_found scope [] old new is same = ap (λ (b : Both (ByControl (Both Reporter Signs)) Finder). b.second.found.items) same ∙ sym (append-nil old.second.found.items)
all_found scope (event ∷ events) old new is (middle, heard, rest) =
    all_found scope events middle new (heard.1.0 ∙ is) rest
    ∙ ap (λ (l : List Finding). l ++ bad_messages scope events) (heard.1.1 ∙ ap (λ (s : Scope). old.second.found.items ++ cons_option (finding_at s event) []) is)
    ∙ append_assoc old.second.found.items (cons_option (finding_at scope event) []) (bad_messages scope events)
    ∙ ap (λ (l : List Finding). old.second.found.items ++ l) (one_first (finding_at scope event) (bad_messages scope events))

-- the approvals so far, and then the approvals in these events
all_approved : (events : List At) (old new : Both (ByControl (Both Reporter Signs)) Finder) → HearsAll both_hear old events new
    → (approvals : List Finding) × AreApprovals events approvals × (new.second.approvals.items ≡ old.second.approvals.items ++ approvals)
all_approved [] old new same =
    ([], refl, ap (λ (b : Both (ByControl (Both Reporter Signs)) Finder). b.second.approvals.items) same ∙ sym (append-nil old.second.approvals.items))
all_approved (event ∷ events) old new (middle, heard, rest) =
    let later = all_approved events middle new rest in
    let one = heard.1.2 in (
      cons_option one later.0,
      (one, later.0, heard.1.3, later.1, refl),
      later.2 ∙ ap (λ (l : List Finding). l ++ later.0) heard.1.4 ∙ append_assoc old.second.approvals.items (cons_option one []) later.0
          ∙ ap (λ (l : List Finding). old.second.approvals.items ++ l) (one_first one later.0),
    )

-- ---- the answer

pub reported_all : (zone : Zone) (moments : Moments) (r : Reading) (scope : Scope) (trace : List ℕ) (tally : Tally) (report : Report) (old new : Both (ByControl (Both Reporter Signs)) Finder) (found : List Finding)
    → moments.times.items ≡ times_of (lines trace) → moments.bad.items ≡ bad_marks_of (lines trace) → StartsIn scope old.first → old.second.scope ≡ scope → old.second.found.items ≡ [] → old.second.approvals.items ≡ []
    → AnswersWalk r both_hear both_want_memory scope (lines trace) old new (Ok tally)
    → found ≡ cons_option (swapped_if new.first.listener.second.till new.first.listener.second.terminal) (new.second.approvals.items ++ cons_option (currencies_by new.first.listener.second.named) (listed new.second.found.items))
    → Finds new.first.listener.first tally new.first.passed zone moments found report
    → AnswersReport zone r scope trace (Ok report)
reported_all zone moments r scope trace tally report old new found times bad starts begun none_found none_approved walked few finds =
    let events = seen scope walked.0 in
    let all = all_seen hears_and_sees scope walked.0 old.first new.first starts.2 (first_heard walked.0 old new walked.2) in
    let before = old.first.listener.first in
    let after = new.first.listener.first in
    let signs = new.first.listener.second in
    let heard = reporter_heard events old.first.listener new.first.listener all.0 in
    let saw = signs_seen events old.first.listener new.first.listener all.0 in
    let none : AreSaidBy [] before.messages.items = subst (λ (l : List OrderMessage). AreSaidBy [] l) (sym starts.0.2) tt in
    let statements = all_stated events before after heard ∙ starts_stated before.hearing events starts.0.3 starts.0.4 in
    let bad_ones = all_found scope walked.0 old new begun walked.2 ∙ ap (λ (l : List Finding). l ++ bad_messages scope walked.0) none_found in
    let approved = all_approved walked.0 old new walked.2 in
    let approvals = approved.2 ∙ ap (λ (l : List Finding). l ++ approved.0) none_approved in (
      walked.0,
      walked.1,
      subst (λ (t : Tally). Tallies t walked.0) (sym finds.tally) walked.3,
      record {
        currency = finds.currency ∙ currency_heard events before after starts.0.1 heard;
        books = finds.books (reported events) (all_judged events before after (noted 0 Connected ∷ []) starts.0.0 heard) ∙ ap₂ (λ (t : List Timed) (l : List Statement). timed_day zone t (settled l (day_of (reported events)))) times statements;
        terminal = finds.terminal ∙ all_identified events before after heard ∙ ap (λ (t : Option (List ℕ)). option_or t (first_terminal events)) starts.0.5;
        times = finds.times ∙ ap₂ (times_in zone) times bad;
        statements = finds.statements ∙ statements;
        closings = finds.closings;
        messages = subst (λ (l : List OrderMessage). AreSaidBy (beginnings events) l) (sym finds.messages) (all_said events before after [] none heard);
      },
      finds.passed ∙ all.1 ∙ ap (λ (n : ℕ). passed_after scope n walked.0) starts.3,
      (
        approved.0,
        approved.1,
        finds.findings ∙ few
            ∙ ap₂ (λ (a b : Option Finding). cons_option a (new.second.approvals.items ++ cons_option b (listed new.second.found.items))) (swapped_seen events old.first.listener.second signs starts.1 saw) (currencies_seen events old.first.listener.second signs starts.1 saw)
            ∙ ap₂ (λ (these bad : List Finding). cons_option (swapped events) (these ++ cons_option (currencies events) (listed bad))) approvals bad_ones,
      ),
    )

-- neither writes, so no write fails
no_write : {r : Reading} {scope : Scope} (lines : List (List ℕ)) (old new : Both (ByControl (Both Reporter Signs)) Finder) → AnswersWalk r both_hear both_want_memory scope lines old new (Err Write) → ⊥
no_write {r = r} {scope = scope} lines old new failed = by failed.stops
  where
    differ : failure.Write ≡ failure.Memory → ⊥
    differ e = cc

    by : Stops {S = Both (ByControl (Both Reporter Signs)) Finder} both_want_memory failure.Write (EventsSoFar r scope lines) failed.events failed.middle new → ⊥
    by (inl (is, so_far, same)) = differ is
    by (inr (event, so_far, inl (inl left, same))) = differ left.0
    by (inr (event, so_far, inl (inr right, same))) = differ right.1
    by (inr (event, so_far, inr right)) = differ right.1

pub walk_failed : (zone : Zone) (r : Reading) (scope : Scope) (trace : List ℕ) (fault : TraceFault) (old new : Both (ByControl (Both Reporter Signs)) Finder)
    → AnswersWalk r both_hear both_want_memory scope (lines trace) old new (Err fault) → AnswersReport zone r scope trace (Err fault)
walk_failed zone r scope trace (Trace number what) old new walked = (walked.0, walked.1)
walk_failed zone r scope trace Memory old new walked = tt
walk_failed zone r scope trace Write old new walked = absurd (no_write (lines trace) old new walked)
walk_failed zone r scope trace TooLong old new never = absurd never
walk_failed zone r scope trace Read old new never = absurd never
