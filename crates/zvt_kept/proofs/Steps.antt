-- One step of a till and its journal.
use Rattle.std.proofs.Common.{◌≡◌, ℕ, Bool, true, false, cond, List, [], ◌∷◌, ◌++◌, Option, Some, None, refl, sym, ap, subst, ◌∙◌}
use Rattle.std.proofs.lemmas.List.{append-nil}
use Rattle.zvt_till.specs.declared.happenings.Happening.{Happening}
use Rattle.zvt_till.specs.declared.happenings.Happening.TheVariants.{Connected, Sent as SentOut, Lost}
use Rattle.zvt_till.specs.declared.orders.Order.{Order}
use Rattle.zvt_till.specs.declared.orders.OrderRefusal.{OrderRefusal}
use Rattle.zvt_till.specs.declared.orders.OrderRefusal.TheVariants.{Offline}
use Rattle.zvt_till.specs.Log.{CanFollow, facts_in, line_after}
use Rattle.zvt_till.specs.Refusals.{or_else, refusal, sent_as}
use Rattle.zvt_till.specs.Sending.{Settings}
use Rattle.zvt_till.specs.Till.{TillState, facts_of}
use Rattle.zvt_till.specs.TillHistory.{Stands}
use Rattle.zvt_till.proofs.Runs.{follows-order}
use Rattle.zvt_till.proofs.Steps.{steps_meet_log}
use Rattle.zvt_journal.specs.Text.{recovered, IsSettled}
use Rattle.zvt_settle.specs.Settling.{Line, Asked, ask_refusal, take}
use Rattle.zvt_kept.specs.Records.{Kept, IsRecordOf, asked, lost}
use Rattle.zvt_kept.specs.Logs.{Happens, Means, StandsFor, on_line}
use Rattle.zvt_kept.specs.KeptTill.{HasLog, IsKept, Logs, Settles, Standing, both_in, line_changed, no_event, unless_up}
use Rattle.zvt_kept.proofs.Logged.{CanRecord, connected_stands, keeps_some, line_is, lost_can, settles_anew, settles_on, stands_more, stays_up, up_stands}
use Rattle.zvt_kept.proofs.Made.{records_are_kept}

-- an order is taken on a line that is up alone
offline : (up : Bool) (next more : Option OrderRefusal) → or_else (cond up next (Some Offline)) more ≡ None → up ≡ true
offline true next more e = refl
offline false next more e = absurd cc

pub taken_up : (s : TillState) (o : Order) → refusal (facts_of s) o ≡ None → s.line_up ≡ true
taken_up s o e = offline s.line_up _ _ e

unasked : (up : Bool) (next : Option OrderRefusal) → cond up next (Some Offline) ≡ None → up ≡ true
unasked true next e = refl
unasked false next e = absurd cc

pub asked_up : (s : TillState) (asking : Option Bool) → ask_refusal (facts_of s) asking ≡ None → s.line_up ≡ true
asked_up s None e = unasked s.line_up _ e
asked_up s (Some positive) e = absurd cc

pub order_follows : (order : Order) (state : TillState) → refusal (facts_of state) order ≡ None
    → (settings : Settings) (log : List Happening) → Stands settings log state → CanFollow settings (facts_in settings.rules log) (SentOut (sent_as settings.currency order))
order_follows order state taken settings log t =
    follows-order settings (facts_in settings.rules log) order (ap (λ f. refusal f order) (sym (ap facts_of t.1 ∙ steps_meet_log settings log t.0)) ∙ taken)

pub heard_follows : (state : TillState) → state.line_up ≡ true → (settings : Settings) (log : List Happening) → Stands settings log state → (facts_in settings.rules log).line_up ≡ true
heard_follows state up settings log t = sym (line_is settings log state t) ∙ up

module _ {D : Type 0} (seen : D → List ℕ) (may_leave : D → List ℕ → Type 0) (moment : D → ℕ) (left_since : D → ℕ → List ℕ → Type 0) (faults : D → ℕ) where
  -- one more record, after which the line is up
  logs_more : (old new : Standing D) (one : Kept) (added : List ℕ) (happened : Settings → List Happening)
      → IsRecordOf one added → ((settings : Settings) → Happens settings.currency one (happened settings))
      → ((settings : Settings) (log : List Happening) (has : HasLog seen may_leave moment left_since faults settings log old) → CanRecord settings (recovered (seen old.device)) log one has.recorded)
      → ((settings : Settings) (log : List Happening) (has : HasLog seen may_leave moment left_since faults settings log old)
      → Stands settings ((log ++ happened settings) ++ unless_up new.till.state.line_up) new.till.state × Settles settings (recovered (seen old.device) ++ added) (both_in new))
      → recovered (seen new.device) ≡ recovered (seen old.device) ++ added → IsSettled (seen new.device) (may_leave new.device) new.gate
      → Logs seen may_leave moment left_since faults happened old new
  logs_more old new one added happened is happens records goes more settled settings log has = record {
    settled = settled;
    recorded = subst (λ text. StandsFor settings text (log ++ happened settings)) (sym more) (stands_more records_are_kept settings (seen old.device) log one added (happened settings) has.recorded is (happens settings) (records settings log has));
    stands = (goes settings log has).0;
    settles = subst (λ text. Settles settings text (both_in new)) (sym more) (goes settings log has).1;
  }

  -- what happens on a line that is up and doesn't end it
  pub logs_one : (old new : Standing D) (one : Kept) (added : List ℕ) (h : Settings → Happening) → old.till.state.line_up ≡ true
      → ((settings : Settings) → line_after true (h settings) ≡ true)
      → ((settings : Settings) (log : List Happening) → Stands settings log old.till.state → CanFollow settings (facts_in settings.rules log) (h settings))
      → ((settings : Settings) → both_in new ≡ take (both_in old) (Line (h settings)))
      → IsRecordOf one added → ((settings : Settings) → Happens settings.currency one (h settings ∷ [])) → ((settings : Settings) → Means settings.currency one (on_line (h settings ∷ [])))
      → ((settings : Settings) (log : List Happening) (has : HasLog seen may_leave moment left_since faults settings log old) → CanRecord settings (recovered (seen old.device)) log one has.recorded)
      → recovered (seen new.device) ≡ recovered (seen old.device) ++ added → IsSettled (seen new.device) (may_leave new.device) new.gate
      → Logs seen may_leave moment left_since faults (λ settings. h settings ∷ []) old new
  logs_one old new one added h up stays can goes is happens means records more settled =
      logs_more old new one added (λ settings. h settings ∷ []) is happens records
      (λ settings log has.
      let next = stays_up settings log old.till.state new.till.state (h settings) up (stays settings) (can settings log (up_stands settings log old.till.state up has.stands)) (ap (λ b. b.till) (goes settings)) has.stands in
      (next.1, settles_on records_are_kept settings (seen old.device) has.recorded.kept one added (on_line (h settings ∷ [])) (both_in old) (both_in new) has.recorded.read is (means settings) up next.0 (goes settings) has.settles))
      more settled

  -- an ask, which is no event
  pub logs_ask : (old new : Standing D) (note added : List ℕ) → old.till.state.line_up ≡ true → both_in new ≡ take (both_in old) Asked → IsRecordOf (asked note) added
      → ((settings : Settings) (log : List Happening) (has : HasLog seen may_leave moment left_since faults settings log old) → CanRecord settings (recovered (seen old.device)) log (asked note) has.recorded)
      → recovered (seen new.device) ≡ recovered (seen old.device) ++ added → IsSettled (seen new.device) (may_leave new.device) new.gate
      → Logs seen may_leave moment left_since faults (no_event seen may_leave moment left_since faults) old new
  logs_ask old new note added up goes is records more settled =
      let same : new.till.state ≡ old.till.state = ap (λ b. b.till) goes in
      logs_more old new (asked note) added (λ settings. []) is (λ settings. refl) records
      (λ settings log has. (
        subst (λ s. Stands settings ((log ++ []) ++ unless_up s.line_up) s) (sym same) (subst (λ l. Stands settings (l ++ unless_up old.till.state.line_up) old.till.state) (sym (append-nil log)) has.stands),
        settles_on records_are_kept settings (seen old.device) has.recorded.kept (asked note) added (Asked ∷ []) (both_in old) (both_in new) has.recorded.read is refl up (ap (λ s. s.line_up) same ∙ up) goes has.settles,
      ))
      more settled

  -- a new line
  pub logs_line : (old new : Standing D) (added : List ℕ) → old.till.state.line_up ≡ false → both_in new ≡ take (both_in old) (Line Connected) → IsRecordOf lost added
      → recovered (seen new.device) ≡ recovered (seen old.device) ++ added → IsSettled (seen new.device) (may_leave new.device) new.gate
      → Logs seen may_leave moment left_since faults (line_changed seen may_leave moment left_since faults) old new
  logs_line old new added down goes is more settled =
      logs_more old new lost added (λ settings. Lost ∷ Connected ∷ []) is (λ settings. refl) (λ settings log has. lost_can settings (recovered (seen old.device)) log has.recorded)
      (λ settings log has. (
        connected_stands settings log old.till.state new.till.state down (ap (λ b. b.till) goes) has.stands,
        settles_anew records_are_kept settings (seen old.device) has.recorded.kept added (both_in old) (both_in new) has.recorded.read is down (ap (λ b. b.till.line_up) goes) goes has.settles,
      ))
      more settled

  -- ---- what the journal keeps afterwards

  pub kept_on : (failed : Bool) (happened : Settings → List Happening) (old new : Standing D) → failed ≡ false → Logs seen may_leave moment left_since faults happened old new
      → IsKept failed (seen old.device) (may_leave old.device) old.gate (both_in old) → IsKept failed (seen new.device) (may_leave new.device) new.gate (both_in new)
  kept_on true happened old new whole logs k = absurd cc
  kept_on false happened old new whole logs k =
      let settings = old.till.state.settings in
      keeps_some settings (k.0 ++ happened settings) (seen new.device) (may_leave new.device) new.gate (both_in new) (logs settings k.0 k.1)

  -- while the line is up the journal has not failed
  pub up_whole : (failed : Bool) (old : Standing D) → old.till.state.line_up ≡ true → IsKept failed (seen old.device) (may_leave old.device) old.gate (both_in old) → failed ≡ false
  up_whole true old up k = let both : true ≡ false = sym up ∙ k in absurd cc
  up_whole false old up k = refl

  pub kept_settled : (failed : Bool) (old : Standing D) → failed ≡ false → IsKept failed (seen old.device) (may_leave old.device) old.gate (both_in old) → IsSettled (seen old.device) (may_leave old.device) old.gate
  kept_settled true old whole k = absurd cc
  kept_settled false old whole k = k.1.settled
