-- A till with its journal after an order or an ask, however it was answered.
use Rattle.std.proofs.Common.{◌≡◌, ℕ, List, Option, is_some, Result, Ok, Err, ap, ap₂, sym, subst, ◌∙◌}
use Rattle.zvt_settle.specs.Settling.{Settling}
use Rattle.zvt_till.specs.Till.{TillState}
use Rattle.zvt_till.specs.View.{TillValue}
use Rattle.zvt_till.specs.declared.keeper.BookFault.TheVariants.{NoSpace, Failed as BookFailed}
use Rattle.zvt_till.specs.declared.keeper.Untaken.{Untaken}
use Rattle.zvt_till.specs.declared.keeper.Untaken.TheVariants.{Order as Refused, Book as Unkept}
use Rattle.zvt_till.specs.declared.orders.Order.{Order}
use Rattle.zvt_till.specs.declared.orders.Outgoing.{Outgoing}
use Rattle.zvt_journal.specs.declared.device.DeviceError.{DeviceError}
use Rattle.zvt_kept.specs.Keeping.{kept_asks, kept_orders}
use Rattle.zvt_kept.specs.KeptTill.{Asks, IsKept, KeptValue, Orders, Standing, both_in, no_event, order_sent}
use Rattle.zvt_kept.proofs.Failing.{unfailed}
use Rattle.zvt_kept.proofs.Spaceless.{still_kept}
use Rattle.zvt_kept.proofs.Steps.{asked_up, kept_on, taken_up, up_whole}

module _ {D : Type 0} (seen : D → List ℕ) (may_leave : D → List ℕ → Type 0) (moment : D → ℕ) (left_since : D → ℕ → List ℕ → Type 0) (faults : D → ℕ) where
  abbrev Keeps : Option DeviceError → Standing D → Type 0
  Keeps failure k = IsKept (is_some failure) (seen k.device) (may_leave k.device) k.gate (both_in k)

  as_before : (old new : Standing D) (was is : Option DeviceError) → is ≡ was → Keeps was new → Keeps is new
  as_before old new was is same k = subst (λ (f : Option DeviceError). Keeps f new) (sym same) k

  pub same_both : (old new : Standing D) → new.till.state ≡ old.till.state → new.settling ≡ old.settling → both_in new ≡ both_in old
  same_both old new till settling = ap₂ (λ (t : TillState) (s : Settling). record { till = t; settling = s }) till settling

  -- it is kept still, or the line is down
  pub stays_kept : (order : Order) (note : List ℕ) (old new : Standing D) (was is : Option DeviceError) (result : Result Outgoing Untaken) → Orders seen may_leave moment left_since faults order note old new was is result → Keeps was old → Keeps is new
  stays_kept order note old new was is (Ok outgoing) o k =
      let whole = up_whole seen may_leave moment left_since faults (is_some was) old (taken_up old.till.state order o.0.taken) k in
      as_before old new was is o.1 (kept_on seen may_leave moment left_since faults (is_some was) (order_sent seen may_leave moment left_since faults order) old new whole o.0.logs k)
  stays_kept order note old new was is (Err (Refused why)) o k = as_before old new was is o.2 (subst (λ (s : Standing D). Keeps was s) (sym o.1) k)
  stays_kept order note old new was is (Err (Unkept NoSpace)) o k =
      let whole = up_whole seen may_leave moment left_since faults (is_some was) old (taken_up old.till.state order o.0.taken) k in
      as_before old new was is o.1 (still_kept seen may_leave moment left_since faults (is_some was) old new whole (same_both old new o.0.state o.0.settling) o.0.full k)
  stays_kept order note old new was is (Err (Unkept BookFailed)) o k = subst (λ (f : Option DeviceError). Keeps f new) (sym o.1) (ap (λ s. s.line_up) o.2.lost)

  pub asked_kept : (note : List ℕ) (old new : Standing D) (was is : Option DeviceError) (result : Result (List ℕ) Untaken) → Asks seen may_leave moment left_since faults note old new was is result → Keeps was old → Keeps is new
  asked_kept note old new was is (Ok bytes) o k =
      let whole = up_whole seen may_leave moment left_since faults (is_some was) old (asked_up old.till.state old.settling.asking o.0.accepts.taken) k in
      as_before old new was is o.1 (kept_on seen may_leave moment left_since faults (is_some was) (no_event seen may_leave moment left_since faults) old new whole o.0.logs k)
  asked_kept note old new was is (Err (Refused why)) o k = as_before old new was is o.2 (subst (λ (s : Standing D). Keeps was s) (sym o.1) k)
  asked_kept note old new was is (Err (Unkept NoSpace)) o k =
      let whole = up_whole seen may_leave moment left_since faults (is_some was) old (asked_up old.till.state old.settling.asking o.0.taken) k in
      as_before old new was is o.1 (still_kept seen may_leave moment left_since faults (is_some was) old new whole (same_both old new (ap (λ (t : TillValue). t.state) o.0.inside) o.0.settling) o.0.full k)
  asked_kept note old new was is (Err (Unkept BookFailed)) o k = subst (λ (f : Option DeviceError). Keeps f new) (sym o.1) (ap (λ s. s.line_up) o.2.loses.lost.0)

  alike : (old new : KeptValue D) → new.standing ≡ old.standing → new.failure ≡ old.failure → new.note ≡ old.note → new ≡ old
  alike old new e f g =
      let with_standing : Standing D → KeptValue D = λ s. record { standing = s; failure = new.failure; note = new.note } in
      let with_failure : Option DeviceError → KeptValue D = λ x. record { standing = old.standing; failure = x; note = new.note } in
      let noted : List ℕ → KeptValue D = λ n. record { standing = old.standing; failure = old.failure; note = n } in
      ap with_standing e ∙ ap with_failure f ∙ ap noted g

  -- the till is asked so, as one that asks are run with
  pub asked_so : (old new : KeptValue D) (result : Result (List ℕ) Untaken) → Asks seen may_leave moment left_since faults old.note old.standing new.standing old.failure new.failure result → new.note ≡ old.note → Keeps old.failure old.standing
      → kept_asks seen may_leave moment left_since faults old result new
  asked_so old new (Ok bytes) o same k =
      (o, o.1 ∙ unfailed old.failure (up_whole seen may_leave moment left_since faults (is_some old.failure) old.standing (asked_up old.standing.till.state old.standing.settling.asking o.0.accepts.taken) k))
  asked_so old new (Err (Refused why)) o same k = (o, alike old new o.1 o.2 same)
  asked_so old new (Err (Unkept why)) o same k = o

  -- the till is answered so, as one that orders are run with
  pub answered_so : (order : Order) (old new : KeptValue D) (result : Result Outgoing Untaken) → Orders seen may_leave moment left_since faults order old.note old.standing new.standing old.failure new.failure result → new.note ≡ old.note → Keeps old.failure old.standing
      → kept_orders seen may_leave moment left_since faults old order result new
  answered_so order old new (Ok outgoing) o same k =
      (o, o.1 ∙ unfailed old.failure (up_whole seen may_leave moment left_since faults (is_some old.failure) old.standing (taken_up old.standing.till.state order o.0.taken) k))
  answered_so order old new (Err (Refused why)) o same k = (o, alike old new o.1 o.2 same)
  answered_so order old new (Err (Unkept why)) o same k = o
