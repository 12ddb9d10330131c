-- Space was reserved, and then a record was to be made durable.
use Rattle.std.proofs.Common.{◌≡◌, inl, ℕ, ◌<◌, ◌≤◌, List, ◌++◌, sym, ap, subst, ◌∙◌, arith}
use Rattle.std.specs.Prelude.{Result, Ok, Err, IfErr, IfOk, IsErrAnd, OnErr}
use Rattle.zvt_till.specs.declared.orders.Order.{Order}
use Rattle.zvt_journal.specs.Device.{LeavesOnly}
use Rattle.zvt_journal.specs.Files.{IsRepairable}
use Rattle.zvt_journal.specs.Text.{recovered, IsSettled, IsWithOrWithout}
use Rattle.zvt_journal.specs.declared.device.DeviceError.{DeviceError}
use Rattle.zvt_journal.specs.declared.device.DeviceError.TheVariants.{Memory, Failed, Full}
use Rattle.zvt_journal.proofs.Lines.{recovered_whole}
use Rattle.zvt_journal.proofs.Moments.{and_then}
use Rattle.zvt_journal.proofs.Repairable.{repairable_at_rest}
use Rattle.zvt_kept.specs.KeptTill.{Adds, HasCause, HasNoted, Recorded}
use Rattle.zvt_kept.specs.Records.{Kept, ask_record, order_record}
use Rattle.zvt_kept.proofs.Logged.{weaker}
use Rattle.zvt_kept.proofs.Made.{records_are_kept}

-- an error of the second call has its cause, from before the first one on
cause_before : (before middle after gate : ℕ) (result : Result Unit DeviceError) → before ≤ middle → IfErr result (λ why. HasCause why middle after gate) → IfErr result (λ why. HasCause why before after gate)
cause_before before middle after gate (Ok done) le cause = tt
cause_before before middle after gate (Err Memory) le cause = tt
cause_before before middle after gate (Err Failed) le cause = omega (arith, le, cause)
cause_before before middle after gate (Err Full) le cause = cause

-- a reservation leaves the records as they are
pub ask_noted_after : {D : Type 0} (seen : D → List ℕ) (old middle new : D) (note : List ℕ) → seen middle ≡ seen old → recovered (seen new) ≡ recovered (seen middle) ++ ask_record note → recovered (seen new) ≡ recovered (seen old) ++ ask_record note
ask_noted_after seen old middle new note file noted = subst (λ (f : List ℕ). recovered (seen new) ≡ recovered f ++ ask_record note) file noted

module _ {D : Type 0} (seen : D → List ℕ) (may_leave : D → List ℕ → Type 0) (moment : D → ℕ) (left_since : D → ℕ → List ℕ → Type 0) (faults : D → ℕ) where
  -- a reservation leaves the file as it is
  abbrev pub StaysSame : D → D → Type 0
  StaysSame old new = LeavesOnly moment left_since old new (λ file. file ≡ seen old)

  still_repairable : (old new : D) (gate : ℕ) → IsSettled (seen old) (may_leave old) gate → StaysSame old new → LeavesOnly moment left_since old new IsRepairable
  still_repairable old new gate settled same =
      weaker records_are_kept seen may_leave moment left_since faults old new (λ (file : List ℕ). file ≡ seen old) IsRepairable same
      (λ file is. repairable_at_rest (recovered (seen old)) (recovered_whole (seen old)) gate settled.at_gate file (is ∙ settled.rest) (ap recovered is))

  still_without : (old new : D) (added : List ℕ) → StaysSame old new → LeavesOnly moment left_since old new (IsWithOrWithout (recovered (seen old)) added)
  still_without old new added same =
      weaker records_are_kept seen may_leave moment left_since faults old new (λ (file : List ℕ). file ≡ seen old) (IsWithOrWithout (recovered (seen old)) added) same (λ file is. inl (ap recovered is))

  pub added_after : (old middle new : D) (added : List ℕ) (gate_before gate_between gate : ℕ) (result : Result Unit DeviceError)
      → IsSettled (seen old) (may_leave old) gate_before → seen middle ≡ seen old → gate_between ≡ gate_before → faults old ≤ faults middle → StaysSame old middle
      → Adds seen may_leave moment left_since faults added middle new gate_between gate result → Adds seen may_leave moment left_since faults added old new gate_before gate result
  added_after old middle new added gate_before gate_between gate result settled file place later same a = record {
    durable = subst (λ (f : List ℕ). IfOk result (λ _. (recovered (seen new) ≡ recovered f ++ added) × IsSettled (seen new) (may_leave new) gate)) file a.durable;
    leaves = and_then moment left_since old middle new (IsWithOrWithout (recovered (seen old)) added) (IsWithOrWithout (recovered (seen middle)) added) (still_without old middle added same) a.leaves
        (λ left with_or_without. subst (λ (f : List ℕ). IsWithOrWithout (recovered f) added left) file with_or_without);
    repairable = and_then moment left_since old middle new IsRepairable IsRepairable (still_repairable old middle gate_before settled same) a.repairable (λ left good. good);
    later = omega (arith, later, a.later);
    cause = cause_before (faults old) (faults middle) (faults new) gate result later a.cause;
    stays = subst (λ (n : ℕ). OnErr result (gate ≡ n)) place a.stays;
  }

  pub recorded_after : (old middle new : D) (one : Kept) (gate_before gate_between gate : ℕ) (result : Result Unit DeviceError)
      → IsSettled (seen old) (may_leave old) gate_before → seen middle ≡ seen old → gate_between ≡ gate_before → faults old ≤ faults middle → StaysSame old middle
      → Recorded seen may_leave moment left_since faults one middle new gate_between gate result → Recorded seen may_leave moment left_since faults one old new gate_before gate result
  recorded_after old middle new one gate_before gate_between gate result settled file place later same r = record {
    added = r.added;
    is = r.is;
    adds = added_after old middle new r.added gate_before gate_between gate result settled file place later same r.adds;
  }

  pub noted_after : (old middle new : D) (order : Order) (note : List ℕ) → seen middle ≡ seen old → HasNoted seen order note middle new → HasNoted seen order note old new
  noted_after old middle new order note file noted = subst (λ (f : List ℕ). (sent : List ℕ) × (recovered (seen new) ≡ recovered f ++ order_record order note sent)) file noted

  -- there was no space, and nothing was written
  pub nothing_added : (old new : D) (added : List ℕ) (gate_before gate : ℕ) (result : Result Unit DeviceError) → IsErrAnd result (λ why. why ≡ Failed)
      → IsSettled (seen old) (may_leave old) gate_before → gate ≡ gate_before → faults old < faults new → StaysSame old new
      → Adds seen may_leave moment left_since faults added old new gate_before gate result
  nothing_added old new added gate_before gate (Ok done) err settled place cause same = absurd err
  nothing_added old new added gate_before gate (Err why) err settled place cause same = record {
    durable = tt;
    leaves = still_without old new added same;
    repairable = still_repairable old new gate_before settled same;
    later = omega (arith, cause);
    cause = subst (λ (e : DeviceError). HasCause e (faults old) (faults new) gate) (sym err) cause;
    stays = place;
  }
