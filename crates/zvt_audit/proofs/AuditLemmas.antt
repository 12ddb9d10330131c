-- The books of what a walk emits.
use Rattle.std.proofs.Common.{◌≡◌, inl, inr, ℕ, ◌≤◌, Bool, true, false, not, ◌&&◌, ◌||◌, List, [], ◌∷◌, ◌++◌, Option, Some, None, Result, Ok, Err, length, refl, sym, ◌∙◌, ap, ap₂, subst, append_assoc, append-nil}
use Rattle.std.specs.Option.{option_map}
use Rattle.std.specs.Io.KnownBytes.{Appends, Keeps}
use Rattle.std.specs.Prelude.{IfSome}
use Rattle.std.specs.Str.Lines.{lines}
use Rattle.zvt_grammar.specs.Reading.{Reading}
use Rattle.zvt_till.specs.Books.{books}
use Rattle.zvt_till.specs.Judging.{HasJudged}
use Rattle.zvt_till.specs.declared.happenings.Happening.{Happening}
use Rattle.zvt_till.specs.declared.happenings.Happening.TheVariants.{Connected}
use Rattle.zvt_trace.specs.Listening.{AnswersWalk, HearsAll, Stops}
use Rattle.zvt_trace.specs.TraceEvent.{At, Tallies}
use Rattle.zvt_trace.specs.Emitting.{EventsSoFar, WholeTrace}
use Rattle.zvt_trace.specs.Written.{AppendsPrefix, limit}
use Rattle.zvt_trace.specs.declared.direction.Direction.TheVariants.{FromTill, FromTerminal}
use Rattle.zvt_trace.specs.declared.fault.Tally.{Tally}
use Rattle.zvt_trace.specs.declared.fault.TraceFault.{TraceFault}
use Rattle.zvt_trace.specs.declared.fault.TraceFault.TheVariants.{Memory, Read, TooLong, Trace, Write}
use Rattle.zvt_trace.specs.declared.listener.ListenerError.TheVariants as failure
use Rattle.zvt_trace.specs.declared.listener.Scope.{Scope}
use Rattle.zvt_trace.specs.declared.listener.Scope.TheVariants.{WholeLine}
use Rattle.zvt_audit.specs.Audited.{AnswersAuditBy, AnswersBooks, AnswersReadBy, IsConnected, StartsIn, Takes, hears, hears_by, wants_memory_by}
use Rattle.zvt_audit.specs.ByControl.{passed_after, seen}
use Rattle.zvt_audit.specs.Booked.{books_text}
use Rattle.zvt_audit.specs.Currencies.{agreed, currencies_of, named_by, one_currency}
use Rattle.zvt_audit.specs.Ends.{AreEndLines, lines_of}
use Rattle.zvt_audit.specs.Json.{books_in}
use Rattle.zvt_text.specs.declared.form.Form.{Form}
use Rattle.zvt_text.specs.declared.form.Form.TheVariants.{Text}
use Rattle.zvt_audit.specs.Happened.{happened_by, happenings_of, log_of}
use Rattle.zvt_audit.specs.Orders.{are_swapped, is_order_from, orders_from}
use Rattle.zvt_audit.specs.Unfollowed.{found_then, found_with, settled_by, unfollowed_in, with_unfollowed}
use Rattle.zvt_audit.specs.declared.auditor.Auditor.{Auditor}
use Rattle.zvt_audit.specs.declared.by_control.ByControl.{ByControl}
use Rattle.zvt_audit.specs.declared.currencies.NamedCurrency.{NamedCurrency}
use Rattle.zvt_audit.specs.declared.currencies.NamedCurrency.TheVariants.{Absent}
use Rattle.zvt_audit.specs.declared.summary.AuditSummary.{AuditSummary}
use Rattle.zvt_audit.specs.declared.orders.Orders.{Orders}
use Rattle.zvt_audit.specs.declared.unfollowed.UnfollowedOrder.{UnfollowedOrder}
use Rattle.zvt_audit.specs.declared.unfollowed.Waiting.{Waiting}
use Rattle.zvt_audit.proofs.EndLemmas.{log_more}
use Rattle.zvt_audit.proofs.BecomeLemmas.{takes_more, takes_none}
use Rattle.zvt_audit.proofs.ControlLemmas.{all_seen, seen_whole}
use Rattle.zvt_audit.proofs.CurrencyLemmas.{after_all, all_agreed, one_more}

-- ---- what is heard

taken : (events : List At) (old new : Auditor) → HearsAll hears old events new → Takes old.books new.books (happened_by events)
taken [] old new same = subst (λ (s : Auditor). Takes old.books s.books []) (sym same) (takes_none old.books)
taken (event ∷ events) old new some =
    takes_more old.books some.0.books new.books (happenings_of event.trace_event) (happened_by events) some.1.0 (taken events some.0 new some.2)

-- the books of the whole log, from the connection on
log_judged : (events : List At) (old new : Auditor) → HasJudged (Connected ∷ []) old.books → HearsAll hears old events new → HasJudged (log_of events) new.books
log_judged events old new start heard = taken events old new heard (Connected ∷ []) start

-- ---- who sent orders

or_false : (b : Bool) → (b || false) ≡ b
or_false true = refl
or_false false = refl

or_more : (a b c : Bool) → ((a || b) || c) ≡ (a || (b || c))
or_more true b c = refl
or_more false b c = refl

till_noticed : (events : List At) (old new : Auditor) → HearsAll hears old events new → new.orders.till ≡ (old.orders.till || orders_from FromTill events)
till_noticed [] old new same = subst (λ (s : Auditor). s.orders.till ≡ (old.orders.till || false)) (sym same) (sym (or_false old.orders.till))
till_noticed (event ∷ events) old new some =
    till_noticed events some.0 new some.2 ∙ ap (λ (o : Orders). o.till || orders_from FromTill events) some.1.1 ∙ or_more old.orders.till (is_order_from FromTill event.trace_event) (orders_from FromTill events)

terminal_noticed : (events : List At) (old new : Auditor) → HearsAll hears old events new → new.orders.terminal ≡ (old.orders.terminal || orders_from FromTerminal events)
terminal_noticed [] old new same = subst (λ (s : Auditor). s.orders.terminal ≡ (old.orders.terminal || false)) (sym same) (sym (or_false old.orders.terminal))
terminal_noticed (event ∷ events) old new some =
    terminal_noticed events some.0 new some.2 ∙ ap (λ (o : Orders). o.terminal || orders_from FromTerminal events) some.1.1 ∙ or_more old.orders.terminal (is_order_from FromTerminal event.trace_event) (orders_from FromTerminal events)

-- the orders of all events are found, those after the ones that were found before
all_found : (events : List At) (old new : Auditor) → HearsAll hears old events new → found_then new.unfollowed [] ≡ found_with old.unfollowed events
all_found [] old new same = subst (λ (s : Auditor). found_then s.unfollowed [] ≡ found_with old.unfollowed []) (sym same) (sym (append-nil (found_then old.unfollowed [])))
all_found (event ∷ events) old new some = all_found events some.0 new some.2 ∙ some.1.4 events

found_first : (events : List At) (connected : Auditor) → IsConnected connected → found_with connected.unfollowed events ≡ unfollowed_in events
found_first events connected start =
    ap₂ (λ (l : List UnfollowedOrder) (o : Option Waiting). with_unfollowed l (option_map (settled_by (happened_by events)) o) ++ unfollowed_in events) start.5 start.6

swapped : (events : List At) (old new : Auditor) → old.orders.till ≡ false → old.orders.terminal ≡ false → HearsAll hears old events new
    → (not new.orders.till && new.orders.terminal) ≡ are_swapped events
swapped events old new till terminal heard =
    let by_till = till_noticed events old new heard ∙ ap (λ (b : Bool). b || orders_from FromTill events) till in
    let by_terminal = terminal_noticed events old new heard ∙ ap (λ (b : Bool). b || orders_from FromTerminal events) terminal in
    ap (λ (b : Bool). not b && new.orders.terminal) by_till ∙ ap (λ (b : Bool). not (orders_from FromTill events) && b) by_terminal

-- ---- which currency was named

all_named : (events : List At) (old new : Auditor) → HearsAll hears old events new → new.named ≡ after_all old.named (currencies_of events)
all_named [] old new same = ap (λ (s : Auditor). s.named) same
all_named (event ∷ events) old new some =
    all_named events some.0 new some.2 ∙ ap (λ (n : NamedCurrency). after_all n (currencies_of events)) some.1.2 ∙ one_more old.named (named_by event.trace_event) (currencies_of events)

currency_heard : (events : List At) (old new : Auditor) → old.named ≡ Absent → HearsAll hears old events new → agreed new.named ≡ one_currency (currencies_of events)
currency_heard events old new unnamed heard =
    ap agreed (all_named events old new heard ∙ ap (λ (n : NamedCurrency). after_all n (currencies_of events)) unnamed) ∙ all_agreed (currencies_of events)

-- ---- at which lines payments ended

all_ended : (before events : List At) (old new : Auditor) → HasJudged (log_of before) old.books → AreEndLines before (lines_of old.ends) → HearsAll hears old events new → AreEndLines (before ++ events) (lines_of new.ends)
all_ended before [] old new judged ended same =
    subst (λ (s : Auditor). AreEndLines (before ++ []) (lines_of s.ends)) (sym same) (subst (λ (l : List At). AreEndLines l (lines_of old.ends)) (sym (append-nil before)) ended)
all_ended before (event ∷ events) old new judged ended some =
    let next : HasJudged (log_of (before ++ event ∷ [])) some.0.books =
    subst (λ (l : List Happening). HasJudged l some.0.books) (sym (log_more before event)) (some.1.0 (log_of before) judged) in
    subst (λ (l : List At). AreEndLines l (lines_of new.ends)) (append_assoc before (event ∷ []) events)
    (all_ended (before ++ event ∷ []) events some.0 new next (some.1.3 before event refl refl judged ended) some.2)

-- ---- what is written

pub keeps_same : (held : Option (List ℕ)) → Keeps held held
keeps_same None = tt
keeps_same (Some bytes) = refl

-- the answer for the events of a trace, after an auditor heard what is seen of them
module _ (r : Reading) (scope : Scope) (trace : List ℕ) (form : Form) (tally : Tally) (events : List At) (whole : WholeTrace r scope (lines trace) events) (tallies : Tallies tally events) (connected closed : Auditor)
    (start : IsConnected connected) (heard : HearsAll hears connected (seen scope events) closed) (passed : ℕ) (counted : passed ≡ passed_after scope 0 events) (old new : Option (List ℕ)) where
  abbrev done : List At
  done = seen scope events

  ended : AreEndLines done (lines_of closed.ends)
  ended = all_ended [] done connected closed start.0 start.4 heard

  by : (answer : Result AuditSummary TraceFault) → AnswersBooks form (log_of done) tally closed.orders (unfollowed_in done) (one_currency (currencies_of done)) (lines_of closed.ends) passed old new answer → AnswersReadBy r scope form trace old new answer
  by (Ok audited) (appended, same, is_swapped, sums, is_unfollowed, is_passed) = (
    events,
    lines_of closed.ends,
    whole,
    ended,
    subst (λ (t : Tally). Appends old new (books_in form t (one_currency (currencies_of done)) (lines_of closed.ends) (unfollowed_in done) (books (log_of done)))) (sym same) appended,
    subst (λ (t : Tally). Tallies t events) (sym same) tallies,
    is_swapped ∙ swapped done connected closed start.1 start.2 heard,
    sums,
    is_unfollowed,
    is_passed ∙ counted,
  )
  by (Err Memory) kept = kept
  by (Err Write) prefix = (events, tally, lines_of closed.ends, whole, ended, prefix, tallies)
  by (Err (Trace number what)) never = absurd never
  by (Err TooLong) never = absurd never
  by (Err Read) never = absurd never

  pub audited_events : (answer : Result AuditSummary TraceFault) → ((log : List Happening) → HasJudged log closed.books → AnswersBooks form log tally closed.orders (found_then closed.unfollowed []) (agreed closed.named) (lines_of closed.ends) passed old new answer)
      → AnswersReadBy r scope form trace old new answer
  audited_events answer closes =
      let unfollowed : found_then closed.unfollowed [] ≡ unfollowed_in done = all_found done connected closed heard ∙ found_first done connected start in
      by answer
      (subst (λ (l : List UnfollowedOrder). AnswersBooks form (log_of done) tally closed.orders l (one_currency (currencies_of done)) (lines_of closed.ends) passed old new answer) unfollowed
      (subst (λ (c : Option ℕ). AnswersBooks form (log_of done) tally closed.orders (found_then closed.unfollowed []) c (lines_of closed.ends) passed old new answer) (currency_heard done connected closed start.3 heard) (closes (log_of done) (log_judged done connected closed start.0 heard))))

pub audited : (r : Reading) (scope : Scope) (trace : List ℕ) (form : Form) (tally : Tally) (answer : Result AuditSummary TraceFault) (old new : Option (List ℕ)) (connected closed : ByControl Auditor)
    → StartsIn scope connected → AnswersWalk r hears_by wants_memory_by scope (lines trace) connected closed (Ok tally)
    → ((log : List Happening) → HasJudged log closed.listener.books → AnswersBooks form log tally closed.listener.orders (found_then closed.listener.unfollowed []) (agreed closed.listener.named) (lines_of closed.listener.ends) closed.passed old new answer)
    → AnswersReadBy r scope form trace old new answer
audited r scope trace form tally answer old new connected closed starts walked closes =
    let all = all_seen hears scope walked.0 connected closed starts.1 walked.2 in
    audited_events r scope trace form tally walked.0 walked.1 walked.3 connected.listener closed.listener starts.0 all.0 closed.passed (all.1 ∙ ap (λ (n : ℕ). passed_after scope n walked.0) starts.2) old new answer closes

-- ---- where the walk fails

-- an auditor writes nothing, so no write fails
pub no_write : {r : Reading} {scope : Scope} (lines : List (List ℕ)) (old new : ByControl Auditor) → AnswersWalk r hears_by wants_memory_by scope lines old new (Err Write) → ⊥
no_write {r = r} {scope = scope} lines old new failed = by failed.stops
  where
    differ : failure.Write ≡ failure.Memory → ⊥
    differ e = cc

    by : Stops {S = ByControl Auditor} wants_memory_by failure.Write (EventsSoFar r scope lines) failed.events failed.middle new → ⊥
    by (inl (is, so_far, same)) = differ is
    by (inr (event, so_far, left)) = differ left

pub none_written : (r : Reading) (scope : Scope) (lines : List (List ℕ)) (old new : ByControl Auditor) (fault : TraceFault) → AnswersWalk r hears_by wants_memory_by scope lines old new (Err fault) → fault ≡ Write → ⊥
none_written r scope lines old new fault failed is = no_write lines old new (subst (λ (f : TraceFault). AnswersWalk r hears_by wants_memory_by scope lines old new (Err f)) is failed)

pub walk_failed : (r : Reading) (scope : Scope) (form : Form) (trace : List ℕ) (fault : TraceFault) (held : Option (List ℕ)) (old new : ByControl Auditor)
    → AnswersWalk r hears_by wants_memory_by scope (lines trace) old new (Err fault) → AnswersReadBy r scope form trace held held (Err fault)
walk_failed r scope form trace (Trace number what) held old new walked = (walked.0, walked.1, keeps_same held)
walk_failed r scope form trace Memory held old new walked = keeps_same held
walk_failed r scope form trace Write held old new walked = absurd (no_write (lines trace) old new walked)
walk_failed r scope form trace TooLong held old new never = absurd never
walk_failed r scope form trace Read held old new never = absurd never

-- ---- a trace that is read first

pub read_audited : (r : Reading) (left : Option (List ℕ)) (trace slice : List ℕ) (old new : Option (List ℕ)) (found : AuditSummary) → IfSome left (λ bytes. trace ≡ bytes) → length trace ≤ limit → slice ≡ trace
    → AnswersReadBy r WholeLine Text slice old new (Ok found) → IfSome left (λ bytes. AnswersAuditBy r bytes old new (Ok found.tally))
read_audited r None trace slice old new found read few same answers = tt
read_audited r (Some bytes) trace slice old new found read few same answers =
    let here = subst (λ (b : List ℕ). AnswersReadBy r WholeLine Text b old new (Ok found)) same answers in
    subst (λ (b : List ℕ). AnswersAuditBy r b old new (Ok found.tally)) read (few, (here.0, here.2, subst (λ (es : List At). Appends old new (books_text (books (log_of es)))) (seen_whole here.0) here.4, here.5))

pub read_failed : (r : Reading) (left : Option (List ℕ)) (trace slice : List ℕ) (old new : Option (List ℕ)) (fault : TraceFault) → IfSome left (λ bytes. trace ≡ bytes) → length trace ≤ limit → slice ≡ trace
    → AnswersReadBy r WholeLine Text slice old new (Err fault) → IfSome left (λ bytes. AnswersAuditBy r bytes old new (Err fault))
read_failed r None trace slice old new fault read few same answers = tt
read_failed r (Some bytes) trace slice old new fault read few same answers =
    subst (λ (b : List ℕ). AnswersAuditBy r b old new (Err fault)) read (by fault (subst (λ (b : List ℕ). AnswersReadBy r WholeLine Text b old new (Err fault)) same answers))
  where
    by : (fault : TraceFault) → AnswersReadBy r WholeLine Text trace old new (Err fault) → AnswersAuditBy r trace old new (Err fault)
    by (Trace number what) answers = (few, answers.0, answers.1, answers.2)
    by Memory answers = answers
    by Write answers = (few, answers.0, answers.3, subst (λ (es : List At). AppendsPrefix old new (books_text (books (log_of es)))) (seen_whole answers.0) answers.5)
    by TooLong never = absurd never
    by Read never = absurd never
