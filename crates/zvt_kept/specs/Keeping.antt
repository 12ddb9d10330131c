-- A till with its journal, as one that orders and asks are run with.
use Rattle.std.specs.Prelude.{◌≡◌, ℕ, List, Option, None, is_some, Result, Ok, Err, refl}
use Rattle.std.proofs.Common.{⊎_elim, inl, inr, ap}
use Rattle.zvt_apdu.specs.Message.{Message}
use Rattle.zvt_stream.specs.Answered.{Answered}
use Rattle.zvt_till.specs.Keeping.{Accepts, Follows, HearsAs, LacksSpace, LosesOrder}
use Rattle.zvt_till.specs.Line.{till_rests}
use Rattle.zvt_till.specs.declared.keeper.BookFault.{BookFault}
use Rattle.zvt_till.specs.declared.keeper.BookFault.TheVariants.{NoSpace, Failed as BookFailed}
use Rattle.zvt_till.specs.declared.keeper.Untaken.{Untaken}
use Rattle.zvt_till.specs.declared.keeper.Untaken.TheVariants.{Order as Refused, Book as Unkept}
use Rattle.zvt_till.specs.declared.orders.Order.{Order}
use Rattle.zvt_till.specs.declared.orders.Outgoing.{Outgoing}
use Rattle.zvt_settle.specs.Askers.{HearsBoth, IsAsker, KeepsAll, both_as}
use Rattle.zvt_settle.specs.Keeping.{first_rests, refused_inside}
use Rattle.zvt_settle.specs.OnLine.{asks_nothing}
use Rattle.zvt_journal.specs.declared.device.DeviceError.{DeviceError}
use Rattle.zvt_kept.specs.KeptTill.{Asks, Connects, FindsNoSpace, Hears, KeptValue, LosesLine, OrderLost, Ordered, Orders, both_in, has_failed, kept_rests, settling_in, till_of}

module _ {D : Type 0} (seen : D → List ℕ) (may_leave : D → List ℕ → Type 0) (moment : D → ℕ) (left_since : D → ℕ → List ℕ → Type 0) (faults : D → ℕ) where
  -- The result of an order, whose record has the note that the till was given. If the order was accepted, the journal
  -- has not failed.
  abbrev pub kept_orders : KeptValue D → Order → Result Outgoing Untaken → KeptValue D → Type 0
  kept_orders old order (Ok outgoing) new = Orders seen may_leave moment left_since faults order old.note old.standing new.standing old.failure new.failure (Ok outgoing) × (new.failure ≡ None)
  kept_orders old order (Err (Refused why)) new = Orders seen may_leave moment left_since faults order old.note old.standing new.standing old.failure new.failure (Err (Refused why)) × (new ≡ old)
  kept_orders old order (Err (Unkept why)) new = Orders seen may_leave moment left_since faults order old.note old.standing new.standing old.failure new.failure (Err (Unkept why))

  -- The result of an ask, whose record has the note that the till was given. If the ask was accepted, the journal has not
  -- failed.
  abbrev pub kept_asks : KeptValue D → Result (List ℕ) Untaken → KeptValue D → Type 0
  kept_asks old (Ok bytes) new = Asks seen may_leave moment left_since faults old.note old.standing new.standing old.failure new.failure (Ok bytes) × (new.failure ≡ None)
  kept_asks old (Err (Refused why)) new = Asks seen may_leave moment left_since faults old.note old.standing new.standing old.failure new.failure (Err (Refused why)) × (new ≡ old)
  kept_asks old (Err (Unkept why)) new = Asks seen may_leave moment left_since faults old.note old.standing new.standing old.failure new.failure (Err (Unkept why))

  -- A line is up, or the journal failed.
  abbrev pub kept_connects : KeptValue D → Result Unit BookFault → KeptValue D → Type 0
  kept_connects old (Ok up) new = Connects seen may_leave moment left_since faults old new (Ok up)
  kept_connects old (Err NoSpace) new = ⊥
  kept_connects old (Err BookFailed) new = (why : DeviceError) × Connects seen may_leave moment left_since faults old new (Err why)

  accepted : (order : Order) (outgoing : Outgoing) (old new : KeptValue D) → Ordered seen may_leave moment left_since faults order outgoing old.standing new.standing → Accepts order outgoing (till_of old) (till_of new)
  accepted order outgoing old new o = record { taken = o.taken; runs = o.runs; room = o.room; numbers = o.numbers; heard = o.heard; message = o.message }

  lacking : (order : Order) (old new : KeptValue D) → FindsNoSpace seen may_leave moment left_since faults order old.standing new.standing → LacksSpace order (till_of old) (till_of new)
  lacking order old new f = record { taken = f.taken; state = f.state; room = f.room; numbers = f.numbers; heard = f.heard }

  lost : (order : Order) (why : DeviceError) (old new : KeptValue D) → OrderLost seen may_leave moment left_since faults order why old.standing new.standing → LosesOrder order (till_of old) (till_of new)
  lost order why old new o = record { taken = o.taken; lost = o.lost; room = o.room; numbers = o.numbers; heard = o.heard }

  heard_so : (old : KeptValue D) (message : Message) (answered : Answered) (new : KeptValue D) → Hears seen may_leave moment left_since faults old message answered new
      → HearsAs (till_of old) (has_failed old) message answered (till_of new) (has_failed new)
  heard_so old message answered new h = ⊎_elim
      (λ still. inl (ap (λ (k : KeptValue D). till_of k) still.1, ap (λ (k : KeptValue D). has_failed k) still.1))
      (λ more. ⊎_elim
      (λ kept. inr (inl (kept.1.heard, ap (λ (f : Option DeviceError). is_some f) kept.0)))
      (λ broke. inr (inr broke.3.lost))
      more)
      h

  -- whatever happens to the till with a journal happens to its till
  pub kept_follows : Follows kept_orders (Hears seen may_leave moment left_since faults) (LosesLine seen may_leave moment left_since faults) (LosesLine seen may_leave moment left_since faults) kept_rests till_of has_failed
  kept_follows = record {
    accepts = λ old order outgoing new taken. (accepted order outgoing old new taken.0.0, ap (λ (f : Option DeviceError). is_some f) taken.1);
    refuses = λ old order why new refused. (refused_inside old.standing.settling.asking (till_of old) order why refused.0.0, refused.1);
    has_no_space = λ old order new found. (lacking order old new found.0, ap (λ (f : Option DeviceError). is_some f) found.1);
    fails = λ old order new failed. (lost order failed.0 old new failed.2, ap (λ (f : Option DeviceError). is_some f) failed.1);
    hears_as = heard_so;
    loses_as = λ old new l. l.0;
    malforms_as = λ old new l. inl l.0;
    rests_as = λ keeper rests. first_rests (till_rests (till_of keeper)) (asks_nothing (settling_in keeper).asking) rests;
  }

  -- ---- asks

  heard_both : (old : KeptValue D) (message : Message) (answered : Answered) (new : KeptValue D) → Hears seen may_leave moment left_since faults old message answered new
      → HearsBoth (both_as (till_of old) (settling_in old)) (has_failed old) message (both_as (till_of new) (settling_in new)) (has_failed new)
  heard_both old message answered new h = ⊎_elim
      (λ still. inl (ap (λ (k : KeptValue D). both_in k.standing) still.1, ap (λ (k : KeptValue D). has_failed k) still.1))
      (λ more. ⊎_elim
      (λ kept. inr (inl (kept.1.both, ap (λ (f : Option DeviceError). is_some f) kept.0)))
      (λ broke. inr (inr broke.3.both))
      more)
      h

  keeps_all : (old new : KeptValue D) → till_of new ≡ till_of old → settling_in new ≡ settling_in old → KeepsAll (till_of old) (settling_in old) (till_of new) (settling_in new)
  keeps_all old new till settling = record { inside = till; settling = settling }

  -- whatever happens to the till with a journal happens to what it settles
  pub kept_is_asker : IsAsker kept_asks (Hears seen may_leave moment left_since faults) (LosesLine seen may_leave moment left_since faults) (LosesLine seen may_leave moment left_since faults) kept_rests till_of settling_in has_failed
  kept_is_asker = record {
    accepts = λ old bytes new taken. (taken.0.0.accepts, ap (λ (f : Option DeviceError). is_some f) taken.1);
    refuses = λ old why new refused. (refused.0.0, keeps_all old new (ap (λ (k : KeptValue D). till_of k) refused.1) (ap (λ (k : KeptValue D). settling_in k) refused.1), ap (λ (k : KeptValue D). has_failed k) refused.1);
    has_no_space = λ old new found. (keeps_all old new found.0.inside found.0.settling, ap (λ (f : Option DeviceError). is_some f) found.1);
    fails = λ old new failed. (failed.2.loses, ap (λ (f : Option DeviceError). is_some f) failed.1);
    hears_as = heard_both;
    loses_as = λ old new l. l.4;
    malforms_as = λ old new l. inl l.4;
    rests_as = λ keeper. refl;
  }
