-- A record made durable.
use Rattle.std.proofs.Common.{◌≡◌, ◌⊎◌, ⊎_elim, inl, ℕ, ◌^◌, ◌<◌, ◌≤◌, List, [], ◌++◌, length, refl, sym, ap, subst, ◌∙◌, arith, append_assoc}
use Rattle.std.specs.Prelude.{Result, Ok, Err, IfErr, IfOk, IsErr, IsErrAnd, IsErrOf, OnErr, OnOk}
use Rattle.zvt_journal.specs.Device.{LeavesOnly}
use Rattle.zvt_journal.specs.Text.{recovered, IsSettled, IsWithOrWithout}
use Rattle.zvt_journal.specs.declared.device.DeviceError.{DeviceError}
use Rattle.zvt_journal.specs.declared.device.DeviceError.TheVariants.{Memory, Failed, Full}
use Rattle.zvt_journal.specs.Files.{IsRepairable}
use Rattle.zvt_journal.proofs.Lines.{recovered_whole}
use Rattle.zvt_journal.proofs.Moments.{started}
use Rattle.zvt_journal.proofs.Repairable.{repairable_at_rest}
use Rattle.zvt_till.specs.declared.orders.Order.{Order}
use Rattle.zvt_kept.specs.Records.{Kept, IsRecordOf, ask_record, order_record}
use Rattle.zvt_io.specs.Devices.{IsPrefix}
use Rattle.zvt_kept.specs.Reading.{Extends}
use Rattle.zvt_kept.specs.KeptTill.{Adds, HasCause, HasNoted, Recorded}

-- a text that was begun anew
pub text_is : (new start added : List ℕ) → new ≡ start ++ added → start ≡ [] → new ≡ added
text_is new start added grown none = grown ∙ ap (λ l. l ++ added) none

-- a first part was cut short
pub cut_short : {E : Type 0} (result : Result Unit E) (old new first second : List ℕ) → IsErr result → ((part : List ℕ) × IsPrefix part first × (new ≡ old ++ part)) → Extends result old new (first ++ second)
cut_short (Ok done) old new first second err e = absurd cc
cut_short (Err why) old new first second err e = (e.0, (e.1.0 ++ second, ap (λ w. w ++ second) e.1.1 ∙ append_assoc e.0 e.1.0 second), e.2)

-- a second part came behind the whole first one
pub then_second : {E : Type 0} (result : Result Unit E) (old middle new first second : List ℕ) → middle ≡ old ++ first → Extends result middle new second → Extends result old new (first ++ second)
then_second (Ok done) old middle new first second is e = e ∙ ap (λ w. w ++ second) is ∙ append_assoc old first second
then_second (Err why) old middle new first second is e =
    (first ++ e.0, (e.1.0, ap (λ w. first ++ w) e.1.1 ∙ sym (append_assoc first e.0 e.1.0)), e.2 ∙ ap (λ w. w ++ e.0) is ∙ append_assoc old first e.0)

-- the record of an order that was appended has its note
pub noted : {D : Type 0} (seen : D → List ℕ) (old new : D) (order : Order) (note sent text : List ℕ) (result : Result Unit DeviceError) → text ≡ order_record order note sent
    → OnOk result (recovered (seen new) ≡ recovered (seen old) ++ text) → OnOk result (HasNoted seen order note old new)
noted seen old new order note sent text (Ok done) is more = (sent, more ∙ ap (λ t. recovered (seen old) ++ t) is)
noted seen old new order note sent text (Err why) is more = tt

-- so has the record of an ask
pub ask_noted : {D : Type 0} (seen : D → List ℕ) (old new : D) (note text : List ℕ) (result : Result Unit DeviceError) → text ≡ ask_record note
    → OnOk result (recovered (seen new) ≡ recovered (seen old) ++ text) → OnOk result (recovered (seen new) ≡ recovered (seen old) ++ ask_record note)
ask_noted seen old new note text result is more = subst (λ t. OnOk result (recovered (seen new) ≡ recovered (seen old) ++ t)) is more

module _ {D : Type 0} (seen : D → List ℕ) (may_leave : D → List ℕ → Type 0) (moment : D → ℕ) (left_since : D → ℕ → List ℕ → Type 0) (faults : D → ℕ) where
  -- nothing was written
  pub nothing_left : (device : D) (gate : ℕ) (added : List ℕ) → ((file : List ℕ) → left_since device (moment device) file → may_leave device file)
      → IsSettled (seen device) (may_leave device) gate → LeavesOnly moment left_since device device (IsWithOrWithout (recovered (seen device)) added)
  nothing_left device gate added only_now settled =
      started moment left_since device (IsWithOrWithout (recovered (seen device)) added) (λ file left. inl (ap recovered (settled.durable file (only_now file left))))

  -- nothing was written, for want of memory
  pub unadded : (device : D) (gate : ℕ) (added : List ℕ) (result : Result Unit DeviceError) → IsErrAnd result (λ why. why ≡ Memory)
      → ((file : List ℕ) → left_since device (moment device) file → may_leave device file) → IsSettled (seen device) (may_leave device) gate
      → Adds seen may_leave moment left_since faults added device device gate gate result
  unadded device gate added (Ok done) err only_now settled = absurd err
  unadded device gate added (Err why) err only_now settled = record {
    durable = tt;
    leaves = nothing_left device gate added only_now settled;
    repairable = started moment left_since device IsRepairable (λ file left. let at = settled.durable file (only_now file left) in
        repairable_at_rest (recovered (seen device)) (recovered_whole (seen device)) gate settled.at_gate file (at ∙ settled.rest) (ap recovered at));
    later = omega arith;
    cause = subst (λ e. HasCause e (faults device) (faults device) gate) (sym err) tt;
    stays = refl;
  }

  pub unrecorded : (device : D) (gate : ℕ) (one : Kept) (added : List ℕ) (result : Result Unit DeviceError) → IsErrAnd result (λ why. why ≡ Memory) → IsRecordOf one added
      → ((file : List ℕ) → left_since device (moment device) file → may_leave device file) → IsSettled (seen device) (may_leave device) gate
      → Recorded seen may_leave moment left_since faults one device device gate gate result
  unrecorded device gate one added result err is only_now settled = record { added = added; is = is; adds = unadded device gate added result err only_now settled }

  -- the cause of an error of an append
  caused : (before after gate_before gate size : ℕ) (result : Result Unit DeviceError) → size ≤ 2 ^ 18
      → (IsErrOf result Failed → before < after) → (IsErrOf result Full → (2 ^ 60 ≤ gate_before) ⊎ (2 ^ 18 < size)) → OnErr result (gate ≡ gate_before)
      → IfErr result (λ why. HasCause why before after gate)
  caused before after gate_before gate size (Ok done) short failed full same = tt
  caused before after gate_before gate size (Err Memory) short failed full same = tt
  caused before after gate_before gate size (Err Failed) short failed full same = failed refl
  caused before after gate_before gate size (Err Full) short failed full same =
      ⊎_elim (λ most. subst (λ n. 2 ^ 60 ≤ n) (sym same) most) (λ long. absurd (omega (arith, long, short))) (full refl)

  -- a text that was appended
  pub text_added : (old new : D) (gate_before gate : ℕ) (text : List ℕ) (result : Result Unit DeviceError) → length text ≤ 2 ^ 18
      → OnOk result (IsSettled (seen new) (may_leave new) gate) → OnOk result (recovered (seen new) ≡ recovered (seen old) ++ text)
      → LeavesOnly moment left_since old new (IsWithOrWithout (recovered (seen old)) text) → LeavesOnly moment left_since old new IsRepairable
      → faults old ≤ faults new → (IsErrOf result Failed → faults old < faults new) → (IsErrOf result Full → (2 ^ 60 ≤ gate_before) ⊎ (2 ^ 18 < length text)) → OnErr result (gate ≡ gate_before)
      → Adds seen may_leave moment left_since faults text old new gate_before gate result
  text_added old new gate_before gate text result short settled more leaves repairable later failed full stays = record {
    durable = both result more settled;
    leaves = leaves;
    repairable = repairable;
    later = later;
    cause = caused (faults old) (faults new) gate_before gate (length text) result short failed full stays;
    stays = stays;
  }
    where
      both : (r : Result Unit DeviceError) → OnOk r (recovered (seen new) ≡ recovered (seen old) ++ text) → OnOk r (IsSettled (seen new) (may_leave new) gate)
          → IfOk r (λ _. (recovered (seen new) ≡ recovered (seen old) ++ text) × IsSettled (seen new) (may_leave new) gate)
      both (Ok done) more settled = (more, settled)
      both (Err why) more settled = tt

  -- a record that was appended
  pub appended : (old new : D) (gate_before gate : ℕ) (one : Kept) (added text : List ℕ) (result : Result Unit DeviceError) → text ≡ added → IsRecordOf one added → length added ≤ 2 ^ 18
      → OnOk result (IsSettled (seen new) (may_leave new) gate) → OnOk result (recovered (seen new) ≡ recovered (seen old) ++ text)
      → LeavesOnly moment left_since old new (IsWithOrWithout (recovered (seen old)) text) → LeavesOnly moment left_since old new IsRepairable
      → faults old ≤ faults new → (IsErrOf result Failed → faults old < faults new) → (IsErrOf result Full → (2 ^ 60 ≤ gate_before) ⊎ (2 ^ 18 < length text)) → OnErr result (gate ≡ gate_before)
      → Recorded seen may_leave moment left_since faults one old new gate_before gate result
  appended old new gate_before gate one added text result same is short settled more leaves repairable later failed full stays = record {
    added = text;
    is = subst (IsRecordOf one) (sym same) is;
    adds = text_added old new gate_before gate text result (subst (λ (t : List ℕ). length t ≤ 2 ^ 18) (sym same) short) settled more leaves repairable later failed full stays;
  }
