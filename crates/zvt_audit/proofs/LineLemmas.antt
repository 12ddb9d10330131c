-- The books of a line that is heard until it is refused.
use Rattle.std.proofs.Common.{◌≡◌, ℕ, Bool, true, false, List, [], ◌∷◌, Option, None, Some, Result, Ok, Err, refl, sym, ◌∙◌, ap, subst}
use Rattle.std.specs.Str.Lines.{lines}
use Rattle.zvt_grammar.specs.Reading.{Reading}
use Rattle.zvt_text.specs.declared.form.Form.TheVariants.{Text}
use Rattle.zvt_till.specs.Judging.{HasJudged}
use Rattle.zvt_till.specs.declared.happenings.Happening.{Happening}
use Rattle.zvt_trace.specs.Apart.{HearsIf, HearsUntil, is_told, refused_after}
use Rattle.zvt_trace.specs.Emitting.{WholeTrace}
use Rattle.zvt_trace.specs.Listening.{HearsAll}
use Rattle.zvt_trace.specs.TraceEvent.{At, TraceEvent, bad_in, messages_in, on, refused_head}
use Rattle.zvt_trace.specs.TraceEvent as trace_event
use Rattle.zvt_trace.specs.declared.direction.Direction.{Direction}
use Rattle.zvt_stream.specs.declared.head.Head.{Head}
use Rattle.zvt_stream.specs.declared.head.Head.TheVariants.{Empty, One, Two}
use Rattle.zvt_apdu.specs.Kinds.{kind_at}
use Rattle.zvt_apdu.specs.Message.{Message}
use Rattle.zvt_trace.specs.declared.fault.Tally.{Tally}
use Rattle.zvt_trace.specs.declared.until_refused.UntilRefused.{UntilRefused}
use Rattle.zvt_trace.specs.declared.fault.TraceFault.{TraceFault}
use Rattle.zvt_trace.specs.declared.fault.TraceFault.TheVariants.{Memory, Read, TooLong, Trace, Write}
use Rattle.zvt_trace.specs.declared.listener.Scope.{Scope}
use Rattle.zvt_trace.specs.declared.listener.Scope.TheVariants.{OneMessage, OneSide, WholeLine}
use Rattle.zvt_trace.proofs.OneScopeLemmas.{IsCut, one_scope}
use Rattle.zvt_audit.specs.Audited.{AnswersBooks, AnswersReadBy, IsConnected, hears}
use Rattle.zvt_audit.specs.ByControl.{HearsBy, at_by, event_for, known_by, passed_after, seen, shortest_of, taken_as}
use Rattle.zvt_audit.specs.Currencies.{agreed}
use Rattle.zvt_audit.specs.Ends.{Lines, lines_of}
use Rattle.zvt_audit.specs.Unfollowed.{found_then}
use Rattle.zvt_audit.specs.Line.{AnswersLine, IsNew, books_scope, hears_line, with_tally}
use Rattle.zvt_trace.specs.Resuming.{side_scope}
use Rattle.zvt_audit.specs.declared.auditor.Auditor.{Auditor}
use Rattle.zvt_audit.specs.declared.line.LineAudit.{LineAudit}
use Rattle.zvt_audit.specs.declared.line.LineBooks.{LineBooks}
use Rattle.zvt_audit.specs.declared.orders.Orders.{Orders}
use Rattle.zvt_audit.specs.declared.unfollowed.UnfollowedOrder.{UnfollowedOrder}
use Rattle.zvt_audit.specs.declared.summary.AuditSummary.{AuditSummary}
use Rattle.zvt_audit.proofs.AuditLemmas.{audited_events}
use Rattle.zvt_audit.proofs.BecomeLemmas.{becomes_same}
use Rattle.zvt_audit.proofs.ControlLemmas.{all_seen, none_passed, none_passed_side, seen_side, seen_whole}

-- ---- what is heard

by_heard : (events : List At) (old new : LineAudit) → HearsAll hears_line old events new → HearsAll (HearsBy (HearsUntil hears)) old.auditor events new.auditor
by_heard [] old new same = ap (λ (l : LineAudit). l.auditor) same
by_heard (event ∷ events) old new (middle, heard, rest) = (middle.auditor, heard, by_heard events middle new rest)

-- a piece that is not read changes nothing, and no more does a message that is cut off
unread_same : (s : Auditor) (line : ℕ) (from : Direction) → hears s (on line (trace_event.unread from)) s
unread_same s line from = becomes_same s line (trace_event.unread from) refl refl refl (λ later. refl) refl

cut_same : (s : Auditor) (event : TraceEvent) (line : ℕ) → IsCut event → hears s (on line event) s
cut_same s (trace_event.message from m) line never = absurd never
cut_same s (trace_event.refused from before byte why) line never = absurd never
cut_same s (trace_event.unread from) line never = absurd never
cut_same s (trace_event.resumed from size) line never = absurd never
cut_same s (trace_event.cut_off from bytes) line is = becomes_same s line (trace_event.cut_off from bytes) refl refl refl (λ later. refl) refl
cut_same s trace_event.lost line never = absurd never

-- a line that is read on is never refused
known_reads : (from : Direction) (o : Option Message) → refused_after false (event_for from o) ≡ false
known_reads from None = refl
known_reads from (Some m) = refl

head_reads : (from : Direction) (head : Head) → refused_after false (known_by from head) ≡ false
head_reads from Empty = refl
head_reads from (One high) = refl
head_reads from (Two high low) = known_reads from (shortest_of (kind_at high low) high low)

read_on : (event : TraceEvent) → refused_after false (taken_as OneMessage event) ≡ false
read_on (trace_event.message from m) = refl
read_on (trace_event.refused from before byte why) = head_reads from (refused_head before byte)
read_on (trace_event.unread from) = refl
read_on (trace_event.resumed from size) = refl
read_on (trace_event.cut_off from bytes) = refl
read_on trace_event.lost = refl

-- so all of it is heard
all_heard_on : (events : List At) (old new : UntilRefused Auditor) → old.is_refused ≡ false → HearsAll (HearsUntil hears) old (seen OneMessage events) new → HearsAll hears old.listener (seen OneMessage events) new.listener
all_heard_on [] old new is same = ap (λ (u : UntilRefused Auditor). u.listener) same
all_heard_on (event ∷ events) old new is (middle, (heard, after), rest) =
    let told : hears old.listener (at_by OneMessage event) middle.listener =
    subst (λ (b : Bool). HearsIf b hears old.listener (at_by OneMessage event) middle.listener) (ap (λ (b : Bool). is_told b (taken_as OneMessage event.trace_event)) is) heard in
    let stays : middle.is_refused ≡ false = after ∙ ap (λ (b : Bool). refused_after b (taken_as OneMessage event.trace_event)) is ∙ read_on event.trace_event in
    (middle.listener, told, all_heard_on events middle new stays rest)

-- ---- what is written

-- the text of books has no tally, so it is that of any
abbrev line_books : AuditSummary → LineBooks
line_books found = record { total = found.total; unclear = found.unclear; swapped = found.swapped; unfollowed = found.unfollowed; passed = found.passed }

any_tally : (tally other : Tally) (log : List Happening) (orders : Orders) (apart : List UnfollowedOrder) (currency : Option ℕ) (ends : Lines) (passed : ℕ) (old new : Option (List ℕ)) (found : AuditSummary)
    → AnswersBooks Text log tally orders apart currency ends passed old new (Ok found) → AnswersBooks Text log other orders apart currency ends passed old new (Ok (with_tally other (line_books found)))
any_tally tally other log orders apart currency ends passed old new found (appended, same, is, sums, unfollowed, is_passed) = (appended, refl, is, record { total = sums.total; unclear = sums.unclear }, unfollowed, is_passed)

no_tally : (tally other : Tally) (log : List Happening) (orders : Orders) (apart : List UnfollowedOrder) (currency : Option ℕ) (ends : Lines) (passed : ℕ) (old new : Option (List ℕ)) (fault : TraceFault)
    → AnswersBooks Text log tally orders apart currency ends passed old new (Err fault) → AnswersBooks Text log other orders apart currency ends passed old new (Err fault)
no_tally tally other log orders apart currency ends passed old new Memory closed = closed
no_tally tally other log orders apart currency ends passed old new Write closed = closed
no_tally tally other log orders apart currency ends passed old new (Trace number what) never = absurd never
no_tally tally other log orders apart currency ends passed old new TooLong never = absurd never
no_tally tally other log orders apart currency ends passed old new Read never = absurd never

abbrev of_events : List At → Tally
of_events events = record { messages = messages_in events; bad = bad_in events }

-- what an auditor writes after it was told what is seen of a trace
module _ (r : Reading) (scope : Scope) (trace : List ℕ) (events : List At) (whole : WholeTrace r scope (lines trace) events) (start now : Auditor) (new : IsConnected start) (heard : HearsAll hears start (seen scope events) now)
    (passed : ℕ) (counted : passed ≡ passed_after scope 0 events) (tally : Tally) (before after : Option (List ℕ)) where
  abbrev Closes : Result AuditSummary TraceFault → Type 0
  Closes answer = (log : List Happening) → HasJudged log now.books → AnswersBooks Text log tally now.orders (found_then now.unfollowed []) (agreed now.named) (lines_of now.ends) passed before after answer

  told : (answer : Result AuditSummary TraceFault) → ((log : List Happening) → HasJudged log now.books → AnswersBooks Text log (of_events events) now.orders (found_then now.unfollowed []) (agreed now.named) (lines_of now.ends) passed before after answer)
      → AnswersReadBy r scope Text trace before after answer
  told answer closes = audited_events r scope trace Text (of_events events) events whole (record { messages = refl; bad = refl }) start now new heard passed counted before after answer closes

  written : (found : AuditSummary) → Closes (Ok found) → AnswersReadBy r scope Text trace before after (Ok (with_tally (of_events events) (line_books found)))
  written found closes = told (Ok (with_tally (of_events events) (line_books found))) (λ log judged. any_tally tally (of_events events) log now.orders (found_then now.unfollowed []) (agreed now.named) (lines_of now.ends) passed before after found (closes log judged))

  failed : (fault : TraceFault) → Closes (Err fault) → AnswersReadBy r scope Text trace before after (Err fault)
  failed fault closes = told (Err fault) (λ log judged. no_tally tally (of_events events) log now.orders (found_then now.unfollowed []) (agreed now.named) (lines_of now.ends) passed before after fault (closes log judged))

-- The events of a line's trace as its books are read, what is seen of them heard, and the messages that were passed over.
abbrev Heard : Reading → (reads_on : Bool) → (trace : List ℕ) → (start now : LineAudit) → Type 0
Heard r reads_on trace start now =
    (events : List At) × WholeTrace r (books_scope reads_on) (lines trace) events × HearsAll hears start.auditor.listener.listener (seen (books_scope reads_on) events) now.auditor.listener.listener
    × (now.auditor.passed ≡ passed_after (books_scope reads_on) 0 events)

heard_as_read : (r : Reading) (reads_on : Bool) (trace : List ℕ) (events : List At) (start now : LineAudit) → IsNew reads_on start → WholeTrace r (side_scope reads_on) (lines trace) events → HearsAll hears_line start events now → Heard r reads_on trace start now
heard_as_read r true trace events start now new whole heard =
    let all = all_seen (HearsUntil hears) OneMessage events start.auditor now.auditor new.2 (by_heard events start now heard) in
    (events, whole, all_heard_on events start.auditor.listener now.auditor.listener new.1 all.0, all.1 ∙ ap (λ (n : ℕ). passed_after OneMessage n events) new.3)
heard_as_read r false trace events start now new whole heard =
    let all = all_seen (HearsUntil hears) OneSide events start.auditor now.auditor new.2 (by_heard events start now heard) in
    let told = subst (λ (es : List At). HearsAll (HearsUntil hears) start.auditor.listener es now.auditor.listener) (seen_side events) all.0 in
    let whole_line = one_scope hears unread_same cut_same r (lines trace) events start.auditor.listener now.auditor.listener whole new.1 told in (
      whole_line.0,
      whole_line.1,
      subst (λ (es : List At). HearsAll hears start.auditor.listener.listener es now.auditor.listener.listener) (sym (seen_whole whole_line.0)) whole_line.2,
      all.1 ∙ none_passed_side start.auditor.passed events ∙ new.3 ∙ sym (none_passed 0 whole_line.0),
    )

module _ (r : Reading) (reads_on : Bool) (trace : List ℕ) (events : List At) (start now : LineAudit) (new : IsNew reads_on start) (whole : WholeTrace r (side_scope reads_on) (lines trace) events) (heard : HearsAll hears_line start events now)
    (tally : Tally) (before after : Option (List ℕ)) where
  all : Heard r reads_on trace start now
  all = heard_as_read r reads_on trace events start now new whole heard

  pub line_written : (found : AuditSummary) → ((log : List Happening) → HasJudged log now.auditor.listener.listener.books → AnswersBooks Text log tally now.auditor.listener.listener.orders (found_then now.auditor.listener.listener.unfollowed []) (agreed now.auditor.listener.listener.named) (lines_of now.auditor.listener.listener.ends) now.auditor.passed before after (Ok found))
      → AnswersLine r reads_on trace before after (Ok (line_books found))
  line_written found closes = (of_events all.0, written r (books_scope reads_on) trace all.0 all.1 start.auditor.listener.listener now.auditor.listener.listener new.0 all.2 now.auditor.passed all.3 tally before after found closes)

  pub line_failed : (fault : TraceFault) → ((log : List Happening) → HasJudged log now.auditor.listener.listener.books → AnswersBooks Text log tally now.auditor.listener.listener.orders (found_then now.auditor.listener.listener.unfollowed []) (agreed now.auditor.listener.listener.named) (lines_of now.auditor.listener.listener.ends) now.auditor.passed before after (Err fault))
      → AnswersLine r reads_on trace before after (Err fault)
  line_failed fault closes = failed r (books_scope reads_on) trace all.0 all.1 start.auditor.listener.listener now.auditor.listener.listener new.0 all.2 now.auditor.passed all.3 tally before after fault closes
