-- A full disk leaves all as it was.
use Rattle.std.proofs.Common.{◌≡◌, ℕ, true, false, Bool, List, ◌++◌, sym, subst}
use Rattle.zvt_till.specs.declared.happenings.Happening.{Happening}
use Rattle.zvt_till.specs.Sending.{Settings}
use Rattle.zvt_till.specs.TillHistory.{Stands}
use Rattle.zvt_journal.specs.Device.{LeavesOnly}
use Rattle.zvt_journal.specs.Text.{recovered}
use Rattle.zvt_kept.specs.KeptTill.{HasLog, IsFull, IsKept, Settles, Standing, both_in, unless_up}
use Rattle.zvt_kept.specs.Logs.{StandsFor}
use Rattle.zvt_kept.specs.Outliving.{IsBetween}
use Rattle.zvt_kept.proofs.Logged.{keeps_some, weaker}
use Rattle.zvt_kept.proofs.Made.{records_are_kept}
use Rattle.zvt_kept.proofs.Outlived.{at_first}

module _ {D : Type 0} (seen : D → List ℕ) (may_leave : D → List ℕ → Type 0) (moment : D → ℕ) (left_since : D → ℕ → List ℕ → Type 0) (faults : D → ℕ) where
  -- the journal keeps the same log
  pub same_log : (old new : Standing D) → both_in new ≡ both_in old → IsFull seen may_leave moment left_since faults old new → (settings : Settings) (log : List Happening)
      → HasLog seen may_leave moment left_since faults settings log old → HasLog seen may_leave moment left_since faults settings log new
  same_log old new same f settings log has = record {
    settled = f.settled;
    recorded = subst (λ (file : List ℕ). StandsFor settings (recovered file) log) (sym f.file) has.recorded;
    stands = subst (λ b. Stands settings (log ++ unless_up b.till.line_up) b.till) (sym same) has.stands;
    settles = subst (λ (file : List ℕ). Settles settings (recovered file) (both_in new)) (sym f.file) (subst (λ b. Settles settings (recovered (seen old.device)) b) (sym same) has.settles);
  }

  pub still_kept : (failed : Bool) (old new : Standing D) → failed ≡ false → both_in new ≡ both_in old → IsFull seen may_leave moment left_since faults old new
      → IsKept failed (seen old.device) (may_leave old.device) old.gate (both_in old) → IsKept failed (seen new.device) (may_leave new.device) new.gate (both_in new)
  still_kept true old new whole same f k = absurd cc
  still_kept false old new whole same f k =
      let settings = old.till.state.settings in
      keeps_some settings k.0 (seen new.device) (may_leave new.device) new.gate (both_in new) (same_log old new same f settings k.0 k.1)

  -- and so does each file that a crash might have left
  pub leaves_the_log : (old new : Standing D) → IsFull seen may_leave moment left_since faults old new → (settings : Settings) (log happened : List Happening)
      → HasLog seen may_leave moment left_since faults settings log old → LeavesOnly moment left_since old.device new.device (IsBetween settings log happened)
  leaves_the_log old new f settings log happened has =
      weaker records_are_kept seen may_leave moment left_since faults old.device new.device (λ (file : List ℕ). file ≡ seen old.device) (IsBetween settings log happened) f.leaves
      (λ file same. at_first settings log happened file (subst (λ (f : List ℕ). StandsFor settings (recovered f) log) (sym same) has.recorded))
