-- What an audit hears of a trace that comes piece by piece.
use Rattle.std.proofs.Common.{◌≡◌, ℕ, ◌<◌, inr, List, [], ◌++◌, length, Option, Result, Ok, Err, sym, ◌∙◌, subst, append-nil, take}
use Rattle.std.proofs.KnownBytes.{Consumes-trans}
use Rattle.std.specs.Io.KnownBytes.{Consumes, IsAtEnd}
use Rattle.std.specs.Str.Lines.{lines}
use Rattle.zvt_grammar.specs.Reading.{Reading}
use Rattle.zvt_trace.specs.Chunks.{AnswersFeed, FeedFaults, HasRead, walker_reading, walker_scope}
use Rattle.zvt_trace.specs.Listening.{AnswersFrom, AnswersWalk, most}
use Rattle.zvt_trace.specs.TraceEvent.{At}
use Rattle.zvt_trace.specs.declared.chunks.Walker.{Walker}
use Rattle.zvt_trace.specs.declared.fault.Tally.{Tally}
use Rattle.zvt_trace.specs.declared.fault.TraceFault.{TraceFault}
use Rattle.zvt_trace.specs.declared.fault.TraceFault.TheVariants.{Memory, Read, TooLong, Trace, Write}
use Rattle.zvt_trace.specs.declared.listener.Scope.{Scope}
use Rattle.zvt_trace.proofs.EventLemmas.{hears_append}
use Rattle.zvt_trace.proofs.WalkedLemmas.{from_before, whole_walk}
use Rattle.zvt_trace.proofs.WalkerLemmas.{fault_before, too_long}
use Rattle.zvt_audit.specs.Audited.{AnswersFollowed, AnswersReadBy, hears_by, wants_memory_by}
use Rattle.zvt_audit.specs.Heard.{AnswersHearing, AnswersTurn, HasAudited, HasHeard, HearingFaults}
use Rattle.zvt_audit.specs.declared.follow.Audit.{Audit}
use Rattle.zvt_audit.specs.declared.auditor.Auditor.{Auditor}
use Rattle.zvt_audit.specs.declared.by_control.ByControl.{ByControl}
use Rattle.zvt_text.specs.declared.form.Form.{Form as Written}
use Rattle.zvt_audit.specs.declared.summary.AuditSummary.{AuditSummary}
use Rattle.zvt_audit.proofs.AuditLemmas.{keeps_same, no_write}

-- ---- turns

at_both : (P : Reading → Scope → Type 0) (r q : Reading) (s t : Scope) → r ≡ q → s ≡ t → P r s → P q t
at_both P r q s t same_reading same_scope p = subst (λ (x : Scope). P q x) same_scope (subst (λ (x : Reading). P x s) same_reading p)

abbrev Feeds : (old new : Walker) → (now next : ByControl Auditor) → (all : List ℕ) → Result Unit TraceFault → Type 0
Feeds old new now next all answer =
    (bytes : List ℕ) (earlier : List At) → HasRead (walker_reading old) (walker_scope old) bytes earlier old → AnswersFeed (walker_reading old) hears_by wants_memory_by (walker_scope old) (bytes ++ all) earlier new now next answer

turn_fed : (r : Reading) (scope : Scope) (bytes all : List ℕ) (start now next : ByControl Auditor) (old new : Walker) (answer : Result Unit TraceFault) → (has : HasHeard r scope bytes start now old) → Feeds old new now next all answer
    → AnswersFeed r hears_by wants_memory_by scope (bytes ++ all) has.events new now next answer
turn_fed r scope bytes all start now next old new answer has feeds =
    at_both (λ q s. HasRead q s bytes has.events old → AnswersFeed q hears_by wants_memory_by s (bytes ++ all) has.events new now next answer) (walker_reading old) r (walker_scope old) scope has.reading has.is_scope (feeds bytes has.events) has.read

heard_on : (r : Reading) (scope : Scope) (bytes chunk : List ℕ) (start now next : ByControl Auditor) (old new : Walker) → (has : HasHeard r scope bytes start now old) → Feeds old new now next chunk (Ok tt)
    → walker_reading new ≡ walker_reading old → walker_scope new ≡ walker_scope old → HasHeard r scope (bytes ++ chunk) start next new
heard_on r scope bytes chunk start now next old new has feeds same_reading same_scope =
    let fed = turn_fed r scope bytes chunk start now next old new (Ok tt) has feeds in record {
      events = has.events ++ fed.0;
      read = fed.1;
      heard = hears_append hears_by has.events fed.0 start now next has.heard fed.2;
      reading = same_reading ∙ has.reading;
      is_scope = same_scope ∙ has.is_scope;
    }

-- a turn failed
turn_failed : (r : Reading) (scope : Scope) (bytes chunk : List ℕ) (start now next : ByControl Auditor) (old new : Walker) (fault : TraceFault) → (has : HasHeard r scope bytes start now old) → Feeds old new now next chunk (Err fault)
    → HearingFaults r scope (bytes ++ chunk) fault
turn_failed r scope bytes chunk start now next old new fault has feeds =
    by fault (fault_before r hears_by wants_memory_by scope (bytes ++ chunk) [] has.events start now next fault has.heard (turn_fed r scope bytes chunk start now next old new (Err fault) has feeds))
  where
    by : (fault : TraceFault) → FeedFaults r hears_by wants_memory_by scope (bytes ++ chunk) [] start next fault → HearingFaults r scope (bytes ++ chunk) fault
    by (Trace number what) failed = (failed.0, failed.1)
    by Memory failed = tt
    by Write failed = absurd (no_write (lines (bytes ++ chunk)) start next failed)
    by TooLong (events, long, heard) = (events, long)
    by Read never = absurd never

-- what a turn answers
pub turn_heard : (r : Reading) (scope : Scope) (bytes chunk : List ℕ) (old : Audit) (next : ByControl Auditor) (new : Walker) (answer : Result Unit TraceFault) → HasAudited r scope bytes old → Feeds old.walker new old.auditor next chunk answer
    → walker_reading new ≡ walker_reading old.walker → walker_scope new ≡ walker_scope old.walker → AnswersTurn r scope (bytes ++ chunk) (record { auditor = next; walker = new }) answer
turn_heard r scope bytes chunk old next new (Ok fed) has feeds same_reading same_scope = record {
  start = has.start;
  starts = has.starts;
  has = heard_on r scope bytes chunk has.start old.auditor next old.walker new has.has feeds same_reading same_scope;
}
turn_heard r scope bytes chunk old next new (Err fault) has feeds same_reading same_scope = turn_failed r scope bytes chunk has.start old.auditor next old.walker new fault has.has feeds

-- ---- the end

-- all that the bytes say was walked
pub all_walked : (r : Reading) (scope : Scope) (bytes : List ℕ) (audit : Audit) (next : ByControl Auditor) (answer : Result Tally TraceFault) → (has : HasAudited r scope bytes audit)
    → ((bytes : List ℕ) (earlier : List At) → HasRead (walker_reading audit.walker) (walker_scope audit.walker) bytes earlier audit.walker → AnswersFrom (walker_reading audit.walker) hears_by wants_memory_by (walker_scope audit.walker) (lines bytes) earlier audit.auditor next answer)
    → AnswersWalk r hears_by wants_memory_by scope (lines bytes) has.start next answer
all_walked r scope bytes audit next answer has feeds = whole_walk r hears_by wants_memory_by scope (lines bytes) answer has.start next (from_before r hears_by wants_memory_by scope (lines bytes) [] has.has.events answer has.start audit.auditor next has.has.heard there)
  where
    there : AnswersFrom r hears_by wants_memory_by scope (lines bytes) has.has.events audit.auditor next answer
    there = at_both (λ q s. HasRead q s bytes has.has.events audit.walker → AnswersFrom q hears_by wants_memory_by s (lines bytes) has.has.events audit.auditor next answer) (walker_reading audit.walker) r (walker_scope audit.walker) scope has.has.reading has.has.is_scope (feeds bytes has.has.events) has.has.read

-- no reader brings so many bytes
pub hearing_endless : (r : Reading) (scope : Scope) (bytes : List ℕ) (audit : Audit) → HasAudited r scope bytes audit → most < length bytes → HearingFaults r scope bytes TooLong
hearing_endless r scope bytes audit has many =
    (has.has.events, too_long r scope bytes audit.walker.begun.items audit.walker.begun.items [] has.has.events audit.walker.progress has.has.read.to (sym (append-nil audit.walker.begun.items)) (inr many))

-- a turn failed over the last bytes that were taken
pub faults_hearing : (r : Reading) (scope : Scope) (taken : List ℕ) (rest : Option (List ℕ)) (fault : TraceFault) → HearingFaults r scope taken fault → AnswersHearing r scope taken rest (Err fault) × (fault ≡ Read → ⊥)
faults_hearing r scope taken rest (Trace number what) failed = (failed, λ is. cc is)
faults_hearing r scope taken rest Memory failed = (failed, λ is. cc is)
faults_hearing r scope taken rest Write never = absurd never
faults_hearing r scope taken rest TooLong failed = (failed, λ is. cc is)
faults_hearing r scope taken rest Read never = absurd never

-- ---- the answer

pub hearing_failed : (r : Reading) (scope : Scope) (form : Written) (taken : List ℕ) (rest held : Option (List ℕ)) (fault : TraceFault) → AnswersHearing r scope taken rest (Err fault) → AnswersFollowed r scope form taken rest held held (Err fault)
hearing_failed r scope form taken rest held (Trace number what) failed = (failed.0, failed.1, keeps_same held)
hearing_failed r scope form taken rest held Memory failed = keeps_same held
hearing_failed r scope form taken rest held Write never = absurd never
hearing_failed r scope form taken rest held TooLong long = (long, keeps_same held)
hearing_failed r scope form taken rest held Read unread = keeps_same held

pub books_followed : (r : Reading) (scope : Scope) (form : Written) (taken : List ℕ) (rest old new : Option (List ℕ)) (answer : Result AuditSummary TraceFault) → AnswersReadBy r scope form taken old new answer → IsAtEnd rest → AnswersFollowed r scope form taken rest old new answer
books_followed r scope form taken rest old new (Ok audited) answers end = (answers, end)
books_followed r scope form taken rest old new (Err (Trace number what)) answers end = answers
books_followed r scope form taken rest old new (Err Memory) answers end = answers
books_followed r scope form taken rest old new (Err Write) answers end = answers
books_followed r scope form taken rest old new (Err TooLong) never end = absurd never
books_followed r scope form taken rest old new (Err Read) never end = absurd never

-- nothing came
pub none_more : (start before after : Option (List ℕ)) (taken buffer : List ℕ) (n : ℕ) → n ≡ 0 → Consumes start before taken → Consumes before after (take n buffer) → Consumes start after taken
none_more start before after taken buffer n none so more =
    let nothing : Consumes before after [] = subst (λ (k : ℕ). Consumes before after (take k buffer)) none more in
    subst (λ (t : List ℕ). Consumes start after t) (append-nil taken) (Consumes-trans start before after taken [] so nothing)

-- writing books reads nothing
pub books_unread : (r : Reading) (scope : Scope) (form : Written) (taken : List ℕ) (old new : Option (List ℕ)) (answer : Result AuditSummary TraceFault) → AnswersReadBy r scope form taken old new answer → answer ≡ Err Read → ⊥
books_unread r scope form taken old new answer answers is = subst (λ (a : Result AuditSummary TraceFault). AnswersReadBy r scope form taken old new a) is answers
