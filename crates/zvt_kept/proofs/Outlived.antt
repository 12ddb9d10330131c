-- What a crash leaves of a journal while a till hears messages and runs orders.
use Rattle.std.proofs.Common.{◌≡◌, ⊎_elim, ℕ, Bool, true, false, List, [], ◌∷◌, ◌++◌, map, Option, Some, is_some, refl, sym, ap, subst, ◌∙◌, append_assoc}
use Rattle.std.proofs.lemmas.List.{append-nil}
use Rattle.zvt_apdu.specs.Message.{Message}
use Rattle.zvt_stream.specs.Answered.{Answered}
use Rattle.zvt_stream.specs.Hearing.{Hears as HearsAll}
use Rattle.zvt_till.specs.declared.happenings.Happening.{Happening}
use Rattle.zvt_till.specs.Events.{hears}
use Rattle.zvt_till.specs.Log.{line_after}
use Rattle.zvt_till.specs.Sending.{Settings}
use Rattle.zvt_till.specs.Till.{TillState, step}
use Rattle.zvt_till.specs.TillHistory.{Stands}
use Rattle.zvt_till.proofs.Segments.{fold-snoc}
use Rattle.zvt_till.proofs.TillHistoryLemmas.{stands-more}
use Rattle.zvt_journal.specs.Device.{LeavesOnly}
use Rattle.zvt_journal.specs.declared.device.DeviceError.{DeviceError}
use Rattle.zvt_journal.specs.Text.{recovered}
use Rattle.zvt_journal.proofs.Moments.{and_then, started}
use Rattle.zvt_kept.specs.Logs.{StandsFor}
use Rattle.zvt_kept.specs.KeptTill.{HasLog, HeardKept, Hears, KeptValue, LeavesLogs, MessageLost, Standing, has_failed, unless_up}
use Rattle.zvt_kept.specs.Outliving.{HearingsOutlive, IsBetween}
use Rattle.zvt_kept.proofs.Logged.{line_is, up_stands, weaker}
use Rattle.zvt_kept.proofs.Made.{records_are_kept}
use Rattle.zvt_kept.proofs.Steps.{heard_follows}

-- ---- files between two logs

pub at_first : (settings : Settings) (first happened : List Happening) (file : List ℕ) → StandsFor settings (recovered file) first → IsBetween settings first happened file
at_first settings first happened file s = record { part = []; rest = happened; is_part = refl; recorded = subst (λ l. StandsFor settings (recovered file) l) (sym (append-nil first)) s }

pub with_one : (settings : Settings) (first : List Happening) (h : Happening) (more : List Happening) (file : List ℕ) → LeavesLogs settings first (h ∷ []) file → IsBetween settings first (h ∷ more) file
with_one settings first h more file left = ⊎_elim
    (λ s. at_first settings first (h ∷ more) file s)
    (λ s. record { part = h ∷ []; rest = more; is_part = refl; recorded = s })
    left

pub one_earlier : (settings : Settings) (first : List Happening) (h : Happening) (more : List Happening) (file : List ℕ) → IsBetween settings (first ++ h ∷ []) more file → IsBetween settings first (h ∷ more) file
one_earlier settings first h more file b = record {
  part = h ∷ b.part;
  rest = b.rest;
  is_part = ap (λ l. h ∷ l) b.is_part;
  recorded = subst (λ l. StandsFor settings (recovered file) l) (append_assoc first (h ∷ []) b.part) b.recorded;
}

-- ---- whether the journal failed

pub failed_by : {D : Type 0} (kept : KeptValue D) (why : DeviceError) → kept.failure ≡ Some why → has_failed kept ≡ true
failed_by kept why is = ap (λ (f : Option DeviceError). is_some f) is

pub failed_alike : {D : Type 0} (one other : KeptValue D) → one.failure ≡ other.failure → has_failed one ≡ has_failed other
failed_alike one other same = ap (λ (f : Option DeviceError). is_some f) same

-- ---- a line that is up

still_up : (settings : Settings) (log : List Happening) (message : Message) (state next : TillState) → state.line_up ≡ true → next ≡ step state (hears message)
    → Stands settings (log ++ unless_up state.line_up) state → next.line_up ≡ true
still_up settings log message state next up is t =
    let now = up_stands settings log state up t in
    let then = stands-more settings log state (hears message) now (heard_follows state up settings log now) in
    ap (λ s. s.line_up) is ∙ line_is settings (log ++ hears message ∷ []) (step state (hears message)) then ∙ fold-snoc line_after false log (hears message) ∙ sym (line_is settings log state now) ∙ up

pub not_both : (b : Bool) → b ≡ true → b ≡ false → ⊥
not_both true up down = absurd cc
not_both false up down = absurd cc

module _ {D : Type 0} (seen : D → List ℕ) (may_leave : D → List ℕ → Type 0) (moment : D → ℕ) (left_since : D → ℕ → List ℕ → Type 0) (faults : D → ℕ) where
  -- a till whose line is down hears nothing
  pub deaf : (old new : KeptValue D) (messages : List Message) (answers : List Answered) → old.standing.till.state.line_up ≡ false → HearsAll (Hears seen may_leave moment left_since faults) old messages answers new → new ≡ old
  deaf old new [] [] down h = sym h
  deaf old new (m ∷ messages) (a ∷ answers) down h =
      let same : h.0 ≡ old = ⊎_elim (λ still. still.1) (λ more. ⊎_elim (λ kept. absurd (not_both old.standing.till.state.line_up kept.1.up down)) (λ lost. absurd (not_both old.standing.till.state.line_up lost.3.up down)) more) h.1 in
      deaf h.0 new messages answers (ap (λ (k : KeptValue D). k.standing.till.state.line_up) same ∙ down) h.2 ∙ same
  deaf old new [] (a ∷ answers) down h = absurd h
  deaf old new (m ∷ messages) [] down h = absurd h

  module _ (only_now : (device : D) (file : List ℕ) → left_since device (moment device) file → may_leave device file) where
    -- nothing was done
    pub quiet : (settings : Settings) (log happened : List Happening) (k : Standing D) → HasLog seen may_leave moment left_since faults settings log k → LeavesOnly moment left_since k.device k.device (IsBetween settings log happened)
    quiet settings log happened k has =
        started moment left_since k.device (IsBetween settings log happened)
        (λ file left. at_first settings log happened file (subst (λ text. StandsFor settings text log) (sym (ap recovered (has.settled.durable file (only_now k.device file left)))) has.recorded))

    abbrev Left : Settings → List Happening → (old new : KeptValue D) → List Message → Type 0
    Left settings log old new messages =
        LeavesOnly moment left_since old.standing.device new.standing.device (IsBetween settings log (map hears messages))
        × (has_failed new ≡ false → HasLog seen may_leave moment left_since faults settings (log ++ map hears messages) new.standing)

    heard_first : (settings : Settings) (log : List Happening) (m : Message) (messages : List Message) (old mid : D) → LeavesOnly moment left_since old mid (LeavesLogs settings log (hears m ∷ []))
        → LeavesOnly moment left_since old mid (IsBetween settings log (map hears (m ∷ messages)))
    heard_first settings log m messages old mid leaves =
        weaker records_are_kept seen may_leave moment left_since faults old mid (LeavesLogs settings log (hears m ∷ [])) (IsBetween settings log (map hears (m ∷ messages))) leaves (λ file. with_one settings log (hears m) (map hears messages) file)

    goes_on : (settings : Settings) (log : List Happening) (m : Message) (a : Answered) (messages : List Message) (old mid new : KeptValue D) → HasLog seen may_leave moment left_since faults settings log old.standing
        → HeardKept seen may_leave moment left_since faults m a old.standing mid.standing → Left settings (log ++ hears m ∷ []) mid new messages → Left settings log old new (m ∷ messages)
    goes_on settings log m a messages old mid new has kept rest = (
      and_then moment left_since old.standing.device mid.standing.device new.standing.device (IsBetween settings log (map hears (m ∷ messages))) (IsBetween settings (log ++ hears m ∷ []) (map hears messages))
          (heard_first settings log m messages old.standing.device mid.standing.device (kept.outlives settings log has)) rest.0 (λ file. one_earlier settings log (hears m) (map hears messages) file),
      λ whole. subst (λ l. HasLog seen may_leave moment left_since faults settings l new.standing) (append_assoc log (hears m ∷ []) (map hears messages)) (rest.1 whole),
    )

    stops : (settings : Settings) (log : List Happening) (m : Message) (why : DeviceError) (messages : List Message) (answers : List Answered) (old mid new : KeptValue D) → HasLog seen may_leave moment left_since faults settings log old.standing
        → has_failed mid ≡ true → MessageLost seen may_leave moment left_since faults m why old.standing mid.standing → HearsAll (Hears seen may_leave moment left_since faults) mid messages answers new → Left settings log old new (m ∷ messages)
    stops settings log m why messages answers old mid new has failed lost h =
        let same : new ≡ mid = deaf mid new messages answers (ap (λ s. s.line_up) lost.lost.0) h in (
          subst (λ (k : KeptValue D). LeavesOnly moment left_since old.standing.device k.standing.device (IsBetween settings log (map hears (m ∷ messages)))) (sym same)
              (heard_first settings log m messages old.standing.device mid.standing.device (lost.outlives settings log has)),
          λ whole. absurd (not_both (has_failed new) (ap (λ (k : KeptValue D). has_failed k) same ∙ failed) whole),
        )

    pub hearings_outlive : HearingsOutlive seen may_leave moment left_since faults
    hearings_outlive settings log old new [] [] has up h =
        subst (λ (k : KeptValue D). Left settings log old k []) h (quiet settings log [] old.standing has, λ whole. subst (λ l. HasLog seen may_leave moment left_since faults settings l old.standing) (sym (append-nil log)) has)
    hearings_outlive settings log old new (m ∷ messages) (a ∷ answers) has up h = ⊎_elim
        (λ still. absurd (not_both old.standing.till.state.line_up up still.0))
        (λ more. ⊎_elim
        (λ kept. goes_on settings log m a messages old h.0 new has kept.1
        (hearings_outlive settings (log ++ hears m ∷ []) h.0 new messages answers (kept.1.logs settings log has) (still_up settings log m old.standing.till.state h.0.standing.till.state up kept.1.heard.0 has.stands) h.2))
        (λ lost. stops settings log m lost.0 messages answers old h.0 new has (failed_by h.0 lost.0 lost.1) lost.3 h.2)
        more)
        h.1
    hearings_outlive settings log old new [] (a ∷ answers) has up h = absurd h
    hearings_outlive settings log old new (m ∷ messages) [] has up h = absurd h
