-- Both ends of a line with a till that crashes.
use Rattle.std.proofs.Common.{◌≡◌, Bool, true, false, cond, List, [], ◌∷◌, ◌++◌, Option, Some, None, fold, slice_get, refl, sym, ap, subst, ◌∙◌, append_assoc, append-nil}
use Rattle.zvt_apdu.specs.Message.{Message}
use Rattle.zvt_till.specs.declared.happenings.Happening.{Happening}
use Rattle.zvt_till.specs.declared.happenings.Happening.TheVariants.{Connected, Sent as SentOut, Lost}
use Rattle.zvt_till.specs.declared.orders.Order.{Order}
use Rattle.zvt_till.specs.declared.orders.OrderRefusal.{OrderRefusal}
use Rattle.zvt_till.specs.Events.{hears}
use Rattle.zvt_till.specs.Refusals.{refusal, sent_as}
use Rattle.zvt_till.specs.Sending.{Settings}
use Rattle.zvt_till.specs.Till.{TillState, accept, facts_of, meet, new_till, state_after, step}
use Rattle.zvt_till.proofs.Runs.{step-order}
use Rattle.zvt_till.proofs.Segments.{fold-snoc}
use Rattle.zvt_term.specs.declared.world.Move.{Move}
use Rattle.zvt_term.specs.declared.world.Move.TheVariants.{Connect, Order as Ordered, ToTerminal, ToTill, TillLost, TerminalLost}
use Rattle.zvt_term.specs.Orderly.{IsAccounted}
use Rattle.zvt_term.specs.Returned.{KeepsReversals}
use Rattle.zvt_term.specs.World.{Ends, Matches, move, orders, reaches_terminal, reaches_till, world_with}
use Rattle.zvt_term.specs.declared.turns.Verdict.{Verdict}
use Rattle.zvt_term.proofs.Accounting.{orderly_worlds_account}
use Rattle.zvt_term.proofs.Returned.{orderly_worlds_keep_reversals}
use Rattle.zvt_term.proofs.WorldMeans.{worlds_match}
use Rattle.zvt_journal.specs.Text.{recovered}
use Rattle.zvt_kept.specs.KeptTill.{unless_up}
use Rattle.zvt_runs.specs.Crashes.{CrashesAccount, CrashesAreLosses, CrashesKeepReversals, CrashesMatch, FilesAreWorlds, KeptEnds, KeptMove, crashed, crashes, crashes_in, kept_move, kept_world, log_after, message_logged, moved, moves, new_kept, order_logged, without_crash, without_crashes}
use Rattle.zvt_kept.proofs.Logged.{lost_twice}
use Rattle.zvt_kept.proofs.Recovering.{logs_are_one}
use Rattle.zvt_kept.proofs.Relived.{heard_up}
use Rattle.zvt_kept.proofs.RunsOutlived.{accept_up}
use Rattle.zvt_kept.proofs.Steps.{taken_up}

module _ (settings : Settings) where
  -- the till is that of the log, whose line was lost where it is down
  abbrev pub IsOf : List Happening → TillState → Type 0
  IsOf log s = s ≡ state_after settings (log ++ unless_up s.line_up)

  after_one : (log : List Happening) (h : Happening) → state_after settings (log ++ h ∷ []) ≡ step (state_after settings log) h
  after_one log h = fold-snoc step (new_till settings) log h

  -- a till whose line is up is that of the log itself
  up_is : (log : List Happening) (s : TillState) → s.line_up ≡ true → IsOf log s → s ≡ state_after settings log
  up_is log s up is = is ∙ ap (λ b. state_after settings (log ++ unless_up b)) up ∙ ap (state_after settings) (append-nil log)

  is_up : (log : List Happening) (s : TillState) → s.line_up ≡ true → s ≡ state_after settings log → IsOf log s
  is_up log s up is = is ∙ sym (ap (λ b. state_after settings (log ++ unless_up b)) up ∙ ap (state_after settings) (append-nil log))

  down_is : (log : List Happening) (s : TillState) → s.line_up ≡ false → IsOf log s → s ≡ state_after settings (log ++ Lost ∷ [])
  down_is log s down is = is ∙ ap (λ b. state_after settings (log ++ unless_up b)) down

  is_down : (log : List Happening) (s : TillState) → s.line_up ≡ false → s ≡ state_after settings (log ++ Lost ∷ []) → IsOf log s
  is_down log s down is = is ∙ sym (ap (λ b. state_after settings (log ++ unless_up b)) down)

  -- recovery gives the till after a lost line
  pub lost_is : (log : List Happening) (s : TillState) → IsOf log s → state_after settings (log ++ Lost ∷ []) ≡ step s Lost
  lost_is log s is = by_line s.line_up refl
    where
      by_line : (up : Bool) → s.line_up ≡ up → state_after settings (log ++ Lost ∷ []) ≡ step s Lost
      by_line true up = after_one log Lost ∙ ap (λ t. step t Lost) (sym (up_is log s up is))
      by_line false down =
          let lost : s ≡ step (state_after settings log) Lost = down_is log s down is ∙ after_one log Lost in
          after_one log Lost ∙ sym (lost_twice (state_after settings log)) ∙ ap (λ t. step t Lost) (sym lost)

  -- ---- moves

  still_connected : (s : TillState) → s.line_up ≡ true → step s Connected ≡ s
  still_connected s up = ap (λ b. record s { line_up = b }) (sym up)

  connect_is : (w : Ends) (log : List Happening) (up : Bool) → w.till.line_up ≡ up → IsOf log w.till → IsOf (cond up log (log ++ Lost ∷ Connected ∷ [])) (step w.till Connected)
  connect_is w log true up is = is_up log (step w.till Connected) refl (still_connected w.till up ∙ up_is log w.till up is)
  connect_is w log false down is =
      is_up (log ++ Lost ∷ Connected ∷ []) (step w.till Connected) refl
      (ap (λ t. step t Connected) (down_is log w.till down is) ∙ sym (after_one (log ++ Lost ∷ []) Connected) ∙ ap (state_after settings) (append_assoc log (Lost ∷ []) (Connected ∷ [])))

  order_is : (w : Ends) (log : List Happening) (order : Order) (found : Option OrderRefusal) → refusal (facts_of w.till) order ≡ found → IsOf log w.till → IsOf (order_logged settings log order found) (orders w order found).till
  order_is w log order None none is =
      let sent = SentOut (sent_as settings.currency order) in
      let up = taken_up w.till order none in
      is_up (log ++ sent ∷ []) (accept w.till order) (accept_up w.till order up)
      (sym (step-order settings.currency w.till order) ∙ ap (λ t. step t sent) (up_is log w.till up is) ∙ sym (after_one log sent))
  order_is w log order (Some why) refused is = is

  if_down : (up : Bool) (x y : TillState) → up ≡ false → cond up x y ≡ y
  if_down false x y is = refl
  if_down true x y is = absurd cc

  deaf : (s : TillState) (message : Message) → s.line_up ≡ false → step s (hears message) ≡ s
  deaf s message down = if_down s.line_up (meet s (hears message)) s down

  same_till : (w : Ends) (v : Verdict) (found : Option Message) → (reaches_terminal w v found).till ≡ w.till
  same_till w v None = refl
  same_till w v (Some message) = refl

  message_is : (w : Ends) (log : List Happening) (up : Bool) (found : Option Message) → w.till.line_up ≡ up → IsOf log w.till → IsOf (message_logged log up found) (reaches_till w found).till
  message_is w log up None line is = is
  message_is w log true (Some message) line is =
      is_up (log ++ hears message ∷ []) (step w.till (hears message)) (heard_up w.till message line)
      (ap (λ t. step t (hears message)) (up_is log w.till line is) ∙ sym (after_one log (hears message)))
  message_is w log false (Some message) line is = subst (IsOf log) (sym (deaf w.till message line)) is

  loss_is : (log : List Happening) (s : TillState) → IsOf log s → IsOf log (step s Lost)
  loss_is log s is = is_down log (step s Lost) refl (sym (lost_is log s is))

  move_is : (w : Ends) (log : List Happening) (m : Move) → IsOf log w.till → IsOf (log_after settings w log m) (move w m).till
  move_is w log Connect is = connect_is w log w.till.line_up refl is
  move_is w log (Ordered order) is = order_is w log order (refusal (facts_of w.till) order) refl is
  move_is w log (ToTerminal k v) is = subst (IsOf log) (sym (same_till w v (slice_get w.from_till k))) is
  move_is w log (ToTill k) is = message_is w log w.till.line_up (slice_get w.from_terminal k) refl is
  move_is w log TillLost is = loss_is log w.till is
  move_is w log TerminalLost is = is

  crash_is : (k : KeptEnds) → IsOf k.log k.ends.till → (crashed settings k).ends ≡ move k.ends TillLost
  crash_is k is = ap (λ t. record k.ends { till = t }) (lost_is k.log k.ends.till is)

  crashed_is : (k : KeptEnds) → IsOf k.log k.ends.till → IsOf k.log (crashed settings k).ends.till
  crashed_is k is = subst (IsOf k.log) (sym (lost_is k.log k.ends.till is)) (loss_is k.log k.ends.till is)

  -- ---- worlds

  kept_is : (k : KeptEnds) (m : KeptMove) → IsOf k.log k.ends.till → IsOf (kept_move settings k m).log (kept_move settings k m).ends.till
  kept_is k (moves m) is = move_is k.ends k.log m is
  kept_is k crashes is = crashed_is k is
  kept_is k (crashes_in m) is = crashed_is (moved settings k m) (move_is k.ends k.log m is)

  one_is : (k : KeptEnds) (m : KeptMove) → IsOf k.log k.ends.till → (kept_move settings k m).ends ≡ fold move k.ends (without_crash m)
  one_is k (moves m) is = refl
  one_is k crashes is = crash_is k is
  one_is k (crashes_in m) is = crash_is (moved settings k m) (move_is k.ends k.log m is)

  folded : (w : Ends) (a b : List Move) → fold move w (a ++ b) ≡ fold move (fold move w a) b
  folded w [] b = refl
  folded w (m ∷ a) b = folded (move w m) a b

  all_are : (k : KeptEnds) (all : List KeptMove) → IsOf k.log k.ends.till → (fold (kept_move settings) k all).ends ≡ fold move k.ends (without_crashes all)
  all_are k [] is = refl
  all_are k (m ∷ all) is =
      all_are (kept_move settings k m) all (kept_is k m is) ∙ ap (λ w. fold move w (without_crashes all)) (one_is k m is) ∙ sym (folded k.ends (without_crash m) (without_crashes all))

  pub same_ends : (all : List KeptMove) → (kept_world settings all).ends ≡ world_with settings (without_crashes all)
  same_ends all = all_are (new_kept settings) all refl

pub crashes_are_losses : CrashesAreLosses
crashes_are_losses settings all = same_ends settings all

crash_after : (settings : Settings) (k : KeptEnds) (all : List KeptMove) → fold (kept_move settings) k (all ++ crashes ∷ []) ≡ crashed settings (fold (kept_move settings) k all)
crash_after settings k [] = refl
crash_after settings k (m ∷ all) = crash_after settings (kept_move settings k m) all

pub files_are_worlds : FilesAreWorlds
files_are_worlds settings all file till stands recovers =
    let log = (kept_world settings all).log in
    let same : recovers.log ≡ log = logs_are_one settings (recovered file) recovers.log log recovers.recorded stands in
    recovers.stands.1 ∙ ap (λ (l : List Happening). state_after settings (l ++ Lost ∷ [])) same ∙ sym (ap (λ (k : KeptEnds). k.ends.till) (crash_after settings (new_kept settings) all))

pub crashes_match : CrashesMatch
crashes_match settings all few fit = subst (λ e. Matches e.till e.terminal.ledger) (sym (same_ends settings all)) (worlds_match settings (without_crashes all) few fit)

pub crashes_account : CrashesAccount
crashes_account settings all few fit orderly =
    subst (λ e. IsAccounted e.till e.terminal.ledger) (sym (same_ends settings all)) (orderly_worlds_account settings (without_crashes all) few fit orderly)

pub crashes_keep_reversals : CrashesKeepReversals
crashes_keep_reversals settings all few fit orderly =
    subst (λ e. KeepsReversals e.till e.terminal.ledger) (sym (same_ends settings all)) (orderly_worlds_keep_reversals settings (without_crashes all) few fit orderly)
