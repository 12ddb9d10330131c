-- What a tally counts beside a listener.
use Rattle.std.proofs.Common.{◌≡◌, arith, refl, subst, sym, inl, inr, ℕ, ◌+◌, ◌≤◌, List, [], ◌∷◌, ◌++◌}
use Rattle.zvt_grammar.specs.Reading.{Reading}
use Rattle.zvt_trace.specs.Listening.{Fails, FaultsFrom, Hears, HearsAll, counted_in}
use Rattle.zvt_trace.specs.Pairs.{BothHear, OneFails, counted}
use Rattle.zvt_trace.specs.TraceEvent.{At, Tallies, TraceEvent, bad_count, bad_in, cut_off, lost, message, message_count, messages_in, refused, resumed, unread}
use Rattle.zvt_trace.specs.declared.both.Both.{Both}
use Rattle.zvt_trace.specs.declared.fault.Tally.{Tally}
use Rattle.zvt_trace.specs.declared.fault.TraceFault.{TraceFault}
use Rattle.zvt_trace.specs.declared.listener.ListenerError.{ListenerError}
use Rattle.zvt_trace.specs.declared.listener.Scope.{Scope}
use Rattle.zvt_trace.proofs.EventLemmas.{bad_append, messages_append}
use Rattle.zvt_trace.proofs.KeptLemmas.{Keeps, SaysLess, fault_as, fault_kept, heard_as, part_kept}

abbrev pub counts : Hears Tally
counts old event new = new ≡ counted old event.trace_event

abbrev pub never_fails : Fails Tally
never_fails old event why new = ⊥

-- one event is counted, where there is room
one_counted : (tally : Tally) (event : TraceEvent) → tally.messages + message_count event ≤ 18446744073709551615 → tally.bad + bad_count event ≤ 18446744073709551615
    → ((counted tally event).messages ≡ tally.messages + message_count event) × ((counted tally event).bad ≡ tally.bad + bad_count event)
one_counted tally (message from m) few none = (omega (arith, few), omega arith)
one_counted tally (refused from before byte why) none few = (omega arith, omega (arith, few))
one_counted tally (unread from) none few = (omega arith, omega arith)
one_counted tally (resumed from size) none few = (omega arith, omega arith)
one_counted tally (cut_off from bytes) none few = (omega arith, omega (arith, few))
one_counted tally lost none few = (omega arith, omega arith)

-- all events are counted, where there is room
pub all_counted : (events : List At) (old new : Tally) → HearsAll counts old events new → old.messages + messages_in events ≤ 18446744073709551615 → old.bad + bad_in events ≤ 18446744073709551615
    → (new.messages ≡ old.messages + messages_in events) × (new.bad ≡ old.bad + bad_in events)
all_counted [] old new same messages bad = subst (λ (t : Tally). (t.messages ≡ old.messages + 0) × (t.bad ≡ old.bad + 0)) (sym same) (omega arith, omega arith)
all_counted (event ∷ events) old new heard messages bad =
    let middle = heard.0 in
    let one_message : messages_in (event ∷ []) ≡ 0 + message_count event.trace_event = refl in
    let one_bad : bad_in (event ∷ []) ≡ 0 + bad_count event.trace_event = refl in
    let messages_sum : messages_in (event ∷ events) ≡ message_count event.trace_event + messages_in events = omega (arith, messages_append (event ∷ []) events, one_message) in
    let bad_sum : bad_in (event ∷ events) ≡ bad_count event.trace_event + bad_in events = omega (arith, bad_append (event ∷ []) events, one_bad) in
    let one = subst (λ (t : Tally). (t.messages ≡ old.messages + message_count event.trace_event) × (t.bad ≡ old.bad + bad_count event.trace_event)) (sym heard.1)
    (one_counted old event.trace_event (omega (arith, messages, messages_sum)) (omega (arith, bad, bad_sum))) in
    let more = all_counted events middle new heard.2 (omega (arith, one.0, messages, messages_sum)) (omega (arith, one.1, bad, bad_sum)) in
    (omega (arith, one.0, more.0, messages_sum), omega (arith, one.1, more.1, bad_sum))

-- ---- a tally beside a listener that is lent

module _ {L M : Type 0} (now : M → L) (name : M → ℕ) (hears : Hears L) (fails : Fails L) where
  -- what a lent listener becomes
  abbrev pub LentHears : Hears M
  LentHears old event new = hears (now old) event (now new) × (name new ≡ name old)

  abbrev pub LentFails : Fails M
  LentFails old event why new = fails (now old) event why (now new) × (name new ≡ name old)

  abbrev pub CountsBeside : Hears (Both Tally M)
  CountsBeside old event new = BothHear counts LentHears event old.first old.second new.first new.second

  abbrev pub FailsBeside : Fails (Both Tally M)
  FailsBeside old event why new = OneFails counts never_fails LentFails event why old.first old.second new.first new.second

  pub beside : SaysLess (λ (both : Both Tally M). now both.second) CountsBeside hears FailsBeside fails
  beside = record { by_event = λ old event new h. h.1.0; by_failure = λ old event why new h. failed old event why new h }
    where
      failed : (old : Both Tally M) (event : At) (why : ListenerError) (new : Both Tally M) → FailsBeside old event why new → fails (now old.second) event why (now new.second)
      failed old event why new (inl never) = absurd never.0
      failed old event why new (inr later) = later.1.0

  pub same_beside : Keeps (λ (both : Both Tally M). name both.second) CountsBeside FailsBeside
  same_beside = record { by_event = λ old event new h. h.1.1; by_failure = λ old event why new h. failed old event why new h }
    where
      failed : (old : Both Tally M) (event : At) (why : ListenerError) (new : Both Tally M) → FailsBeside old event why new → name new.second ≡ name old.second
      failed old event why new (inl never) = absurd never.0
      failed old event why new (inr later) = later.1.1

  -- The tally has counted the events, and the listener has heard them, which is still the same.
  pub heard_beside : (earlier all : List At) (old new : Both Tally M) (y : L) → Tallies old.first earlier → (name old.second ≡ name new.second → y ≡ now new.second) → HearsAll CountsBeside old all new → counted_in (earlier ++ all) ≤ 18446744073709551615
      → Tallies new.first (earlier ++ all) × HearsAll hears (now old.second) all y
  heard_beside earlier all old new y start is heard few =
      let tallied = all_counted all old.first new.first (heard_as (λ (both : Both Tally M). both.first) CountsBeside counts (λ before event after h. h.0) all old new heard)
      (omega (arith, few, start.messages, messages_append earlier all)) (omega (arith, few, start.bad, bad_append earlier all)) in
      let same : name old.second ≡ name new.second = sym (part_kept (λ (both : Both Tally M). name both.second) CountsBeside FailsBeside same_beside all old new heard) in (
        record {
          messages = omega (arith, tallied.0, start.messages, messages_append earlier all);
          bad = omega (arith, tallied.1, start.bad, bad_append earlier all);
        },
        subst (λ (l : L). HearsAll hears (now old.second) all l) (sym (is same)) (heard_as (λ (both : Both Tally M). now both.second) CountsBeside hears beside.by_event all old new heard),
      )

  pub fault_beside : (r : Reading) (scope : Scope) (lines : List (List ℕ)) (earlier : List At) (fault : TraceFault) (old new : Both Tally M) (y : L) → (name old.second ≡ name new.second → y ≡ now new.second)
      → FaultsFrom r CountsBeside FailsBeside scope lines earlier old new fault → FaultsFrom r hears fails scope lines earlier (now old.second) y fault
  fault_beside r scope lines earlier fault old new y is failed =
      let same : name old.second ≡ name new.second = sym (fault_kept (λ (both : Both Tally M). name both.second) CountsBeside FailsBeside same_beside r scope lines earlier fault old new failed) in
      subst (λ (l : L). FaultsFrom r hears fails scope lines earlier (now old.second) l fault) (sym (is same))
      (fault_as (λ (both : Both Tally M). now both.second) CountsBeside hears FailsBeside fails beside r scope lines earlier fault old new failed)
