-- What a crash leaves of a journal while a till asks.
use Rattle.std.proofs.Common.{◌≡◌, ⊎_elim, ℕ, false, List, [], ◌++◌, map, ap, subst, ◌∙◌}
use Rattle.std.proofs.lemmas.List.{append-nil}
use Rattle.zvt_apdu.specs.Message.{Message}
use Rattle.zvt_stream.specs.Answered.{Answered}
use Rattle.zvt_stream.specs.Hearing.{Hears as HearsAll}
use Rattle.zvt_till.specs.declared.happenings.Happening.{Happening}
use Rattle.zvt_till.specs.Events.{hears}
use Rattle.zvt_till.specs.Sending.{Settings}
use Rattle.zvt_till.specs.View.{TillValue}
use Rattle.zvt_journal.specs.Device.{LeavesOnly}
use Rattle.zvt_journal.specs.Text.{recovered}
use Rattle.zvt_journal.proofs.Moments.{and_then}
use Rattle.zvt_kept.specs.KeptTill.{AskKept, HasLog, Hears, KeptValue, LeavesLogs, has_failed}
use Rattle.zvt_kept.specs.Logs.{StandsFor}
use Rattle.zvt_kept.specs.Outliving.{IsBetween}
use Rattle.zvt_kept.proofs.Logged.{weaker}
use Rattle.zvt_kept.proofs.Made.{records_are_kept}
use Rattle.zvt_kept.proofs.Outlived.{at_first, hearings_outlive}
use Rattle.zvt_kept.proofs.Steps.{asked_up}

-- an ask is no event
no_more : (settings : Settings) (log happened : List Happening) (file : List ℕ) → LeavesLogs settings log [] file → IsBetween settings log happened file
no_more settings log happened file left = ⊎_elim
    (λ s. at_first settings log happened file s)
    (λ s. at_first settings log happened file (subst (λ l. StandsFor settings (recovered file) l) (append-nil log) s))
    left

module _ {D : Type 0} (seen : D → List ℕ) (may_leave : D → List ℕ → Type 0) (moment : D → ℕ) (left_since : D → ℕ → List ℕ → Type 0) (faults : D → ℕ) where
  pub after_ask : (settings : Settings) (log happened : List Happening) (old new : D) → LeavesOnly moment left_since old new (LeavesLogs settings log []) → LeavesOnly moment left_since old new (IsBetween settings log happened)
  after_ask settings log happened old new leaves =
      weaker records_are_kept seen may_leave moment left_since faults old new (LeavesLogs settings log []) (IsBetween settings log happened) leaves (λ file. no_more settings log happened file)

  module _ (only_now : (device : D) (file : List ℕ) → left_since device (moment device) file → may_leave device file) where
    -- an ask is taken, and then messages are heard
    pub after_answers : (settings : Settings) (log : List Happening) (bytes note : List ℕ) (old asking new : KeptValue D) (messages : List Message) (answers : List Answered)
        → HasLog seen may_leave moment left_since faults settings log old.standing → AskKept seen may_leave moment left_since faults bytes note old.standing asking.standing
        → HearsAll (Hears seen may_leave moment left_since faults) asking messages answers new
        → LeavesOnly moment left_since old.standing.device new.standing.device (IsBetween settings log (map hears messages))
        × (has_failed new ≡ false → HasLog seen may_leave moment left_since faults settings (log ++ map hears messages) new.standing)
    after_answers settings log bytes note old asking new messages answers has kept h =
        let now : HasLog seen may_leave moment left_since faults settings log asking.standing = subst (λ l. HasLog seen may_leave moment left_since faults settings l asking.standing) (append-nil log) (kept.logs settings log has) in
        let up = ap (λ (t : TillValue). t.state.line_up) kept.accepts.inside ∙ asked_up old.standing.till.state old.standing.settling.asking kept.accepts.taken in
        let rest = hearings_outlive seen may_leave moment left_since faults only_now settings log asking new messages answers now up h in (
          and_then moment left_since old.standing.device asking.standing.device new.standing.device (IsBetween settings log (map hears messages)) (IsBetween settings log (map hears messages))
              (after_ask settings log (map hears messages) old.standing.device asking.standing.device (kept.outlives settings log has)) rest.0 (λ file left. left),
          rest.1,
        )
