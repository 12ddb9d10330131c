-- Over lines that keep order, the till knows of each payment that the terminal took back, or its reversal runs.
use Rattle.std.proofs.Common.{◌≡◌, ℕ, ◌+◌, ◌<◌, ◌≤◌, Bool, true, false, ◌&&◌, List, [], ◌∷◌, ◌++◌, length, drop, take, Option, Some, None, map, IsTrue, refl, sym, ap, subst, ◌∙◌, append-nil, slice_get, arith}
use Rattle.std.proofs.Math.Seq.{drop-length}
use Rattle.std.proofs.lemmas.List.{take_all}
use Rattle.zvt_till.specs.declared.happenings.Happening.TheVariants.{Connected, Heard as HeardIn}
use Rattle.zvt_till.specs.declared.messages.Heard.{Heard}
use Rattle.zvt_till.specs.declared.orders.Order.{Order}
use Rattle.zvt_till.specs.declared.orders.OrderRefusal.{OrderRefusal}
use Rattle.zvt_till.specs.declared.statuses.Running.{Running}
use Rattle.zvt_till.specs.Refusals.{refusal}
use Rattle.zvt_till.specs.Events.{run_settings}
use Rattle.zvt_till.specs.Sending.{Settings, message_of}
use Rattle.zvt_till.specs.Till.{TillState, accept, step, facts_of}
use Rattle.zvt_term.specs.declared.messages.Asked.{Asked}
use Rattle.zvt_term.specs.declared.ledger.Row.{Row}
use Rattle.zvt_term.specs.declared.turns.Verdict.{Verdict}
use Rattle.zvt_term.specs.declared.turns.Phase.{Phase}
use Rattle.zvt_term.specs.declared.world.Move.{Move}
use Rattle.zvt_term.specs.declared.world.Move.TheVariants.{Connect, Order as Ordered, ToTerminal, ToTill, TillLost, TerminalLost}
use Rattle.zvt_term.specs.Orderly.{Line, no_line, is_orderly, line_after, are_orderly}
use Rattle.zvt_term.specs.Returned.{Reverses, KeepsReversals, OrderlyWorldsKeepReversals}
use Rattle.zvt_term.specs.Terminal.{turn_of, reports_of}
use Rattle.zvt_term.specs.World.{Ends, ends_with, world, world_with, FitMoves, FitSettings, AllMatch}
use Rattle.zvt_term.proofs.TurnLemmas.{short-of}
use Rattle.zvt_term.proofs.Facts.{Facts, heard_of, asked_out, answer_to, orders, reaches_terminal, reaches_till, move}
use Rattle.zvt_term.proofs.FactsMatch.{Holds, move-holds as move-matches}
use Rattle.zvt_term.proofs.WorldMeans.{meaning, first-holds}
use Rattle.zvt_term.proofs.Accounts.{orders_in, words}
use Rattle.zvt_term.proofs.Answering.{script_of, ledger_after}
use Rattle.zvt_term.proofs.Accounting.{and-left, and-right, next-of, asked-more, said-more, asked_on, rest_on, Standing, LineHolds, down_of, no_orders, offline, online, terminal-delivered, till-delivered, move-holds, MovesKeep, orderly-worlds, start}
use Rattle.zvt_term.proofs.Returning.{known-same, Awaits, Returns, till-hears-returns, till-loses-returns, connected-returns, prefix-returns, till-accepts-returns}
use Rattle.zvt_term.proofs.Reverting.{terminal-hears-returns}

abbrev Returning : Facts → Line → Type 0
Returning w l = Returns w.terminal.ledger (asked_on w l) w.till (rest_on w l)

connects : (w : Facts) (l : Line) → (l.till_lost && l.terminal_lost) ≡ true → LineHolds w l → Returning w l → Returning (move w Connect) (line_after (length w.from_till) (length w.from_terminal) l Connect)
connects w l e i k =
    let ledger = w.terminal.ledger in
    let down = down_of l.till_lost ledger (asked_on w l) w.till (rest_on w l) (and-left l.till_lost l.terminal_lost e) i.standing in
    let no_script = i.silent (and-right l.till_lost l.terminal_lost e) in
    let s = step w.till Connected in
    let no_asked : orders_in (drop (length w.from_till) w.from_till) ≡ [] = ap orders_in (drop-length w.from_till) in
    let no_rest : words (drop (length w.from_terminal) w.from_terminal) ++ words (script_of w.terminal.phase) ≡ [] =
    ap (λ x. words x ++ words (script_of w.terminal.phase)) (drop-length w.from_terminal) ∙ ap (λ (p : Phase). words (script_of p)) no_script in
    let now = connected-returns ledger (asked_on w l) w.till (rest_on w l) down.resting k in
    subst (λ x. Returns ledger x s (words (drop (length w.from_terminal) w.from_terminal) ++ words (script_of w.terminal.phase))) (sym no_asked)
    (subst (λ x. Returns ledger [] s x) (sym no_rest) now)

-- given: the settings of the till
module _ (given : Settings) (few : FitSettings given) where
  ordered : (b : Bool) (l : List Row) (asked : List Asked) (s : TillState) (o : Order) (rest : List Heard) → refusal (facts_of s) o ≡ None → AllMatch given.currency l s.book → Standing b l asked s rest → Returns l asked s rest
      → Returns l (asked ++ orders_in (asked_out (message_of s.settings s.book o))) (accept s o) rest
  ordered true l asked s o rest e m k r = absurd (offline (facts_of s) o k.line e)
  ordered false l asked s o rest e m (up, k) r = (till-accepts-returns given.currency) l asked s o rest (online (facts_of s) o up e) m k.dialogue r

  orders-return : (w : Facts) (l : Line) (o : Order) (why : Option OrderRefusal) → refusal (facts_of w.till) o ≡ why → LineHolds w l → AllMatch given.currency w.terminal.ledger w.till.book → Returning w l → Returning (orders w o why) l
  orders-return w l o (Some why) e i m k = k
  orders-return w l o None e i m k =
      let more = asked_out (message_of w.till.settings w.till.book o) in
      subst (λ x. Returns w.terminal.ledger x (accept w.till o) (rest_on w l)) (sym (asked-more l.to_terminal w.from_till more i.till_sent))
      (ordered l.till_lost w.terminal.ledger (asked_on w l) w.till o (rest_on w l) e m i.standing k)

  terminal-reached : (w : Facts) (l : Line) (v : Verdict) → l.to_terminal < length w.from_till → LineHolds w l → (Holds given) w → Returning w l
      → Returning (reaches_terminal w v (slice_get w.from_till l.to_terminal)) (record l { to_terminal = l.to_terminal + 1 })
  terminal-reached w l v lt i h k =
      let next = next-of w.from_till l.to_terminal lt in
      let m = next.message in
      let turn = turn_of w.terminal m v in
      let sent = map heard_of (reports_of turn.reply) in
      let q = drop (l.to_terminal + 1) w.from_till in
      let said = words (drop l.to_till w.from_terminal) in
      let standing : Standing l.till_lost w.terminal.ledger (orders_in (m ∷ q)) w.till (rest_on w l) =
      subst (λ x. Standing l.till_lost w.terminal.ledger (orders_in x) w.till (rest_on w l)) next.waiting i.standing in
      let before : Returns w.terminal.ledger (orders_in (m ∷ q)) w.till (rest_on w l) = subst (λ x. Returns w.terminal.ledger (orders_in x) w.till (rest_on w l)) next.waiting k in
      let now = (terminal-hears-returns given.currency) l.till_lost w.terminal m v q w.till said (short-of w.terminal h.sound).rows h.till.book standing before in
      let here : Returning (reaches_terminal w v (Some m)) (record l { to_terminal = l.to_terminal + 1 }) =
      subst (λ x. Returns (ledger_after w.terminal turn) (orders_in q) w.till x) (sym (said-more l.to_till w.from_terminal sent (words (script_of turn.phase)) i.terminal_sent)) now in
      subst (λ o. Returning (reaches_terminal w v o) (record l { to_terminal = l.to_terminal + 1 })) (sym next.is_next) here

  hears : (b : Bool) (l : List Row) (asked : List Asked) (s : TillState) (m : Heard) (q coming : List Heard) → b ≡ false → Standing b l asked s (words (m ∷ q) ++ coming)
      → Returns l asked s (words (m ∷ q) ++ coming) → Returns l asked (step s (HeardIn m)) (words q ++ coming)
  hears true l asked s m q coming e k r = absurd cc
  hears false l asked s m q coming e (up, k) r = till-hears-returns l asked s m q coming up k.dialogue r

  till-reached : (w : Facts) (l : Line) → l.to_till < length w.from_terminal → l.till_lost ≡ false → LineHolds w l → Returning w l
      → Returning (reaches_till w (slice_get w.from_terminal l.to_till)) (record l { to_till = l.to_till + 1 })
  till-reached w l lt up i k =
      let next = next-of w.from_terminal l.to_till lt in
      let m = next.message in
      let q = drop (l.to_till + 1) w.from_terminal in
      let ledger = w.terminal.ledger in
      let coming = words (script_of w.terminal.phase) in
      let more = answer_to w.till.line_up m in
      let standing : Standing l.till_lost ledger (asked_on w l) w.till (words (m ∷ q) ++ coming) = subst (λ x. Standing l.till_lost ledger (asked_on w l) w.till (words x ++ coming)) next.waiting i.standing in
      let before : Returns ledger (asked_on w l) w.till (words (m ∷ q) ++ coming) = subst (λ x. Returns ledger (asked_on w l) w.till (words x ++ coming)) next.waiting k in
      let after = hears l.till_lost ledger (asked_on w l) w.till m q coming up standing before in
      let same : orders_in (drop l.to_terminal (w.from_till ++ more)) ≡ asked_on w l =
      asked-more l.to_terminal w.from_till more i.till_sent ∙ ap (λ x. asked_on w l ++ x) (no_orders w.till.line_up m) ∙ append-nil (asked_on w l) in
      let here : Returning (reaches_till w (Some m)) (record l { to_till = l.to_till + 1 }) = subst (λ x. Returns ledger x (step w.till (HeardIn m)) (words q ++ coming)) (sym same) after in
      subst (λ o. Returning (reaches_till w o) (record l { to_till = l.to_till + 1 })) (sym next.is_next) here

  move-returns : (w : Facts) (l : Line) (x : Move) → is_orderly (length w.from_till) (length w.from_terminal) l x ≡ true → LineHolds w l → (Holds given) w → Returning w l
      → Returning (move w x) (line_after (length w.from_till) (length w.from_terminal) l x)
  move-returns w l Connect e i h k = connects w l e i k
  move-returns w l (Ordered o) e i h k = orders-return w l o (refusal (facts_of w.till) o) refl i h.till.book k
  move-returns w l (ToTerminal j v) e i h k = terminal-delivered Returning w l j v e (λ lt up. terminal-reached w l v lt i h k)
  move-returns w l (ToTill j) e i h k = till-delivered Returning w l j e (λ lt up. till-reached w l lt up i k)
  move-returns w l TillLost e i h k = till-loses-returns w.terminal.ledger (asked_on w l) w.till (rest_on w l) (rest_on w l) k
  move-returns w l TerminalLost e i h k =
      let said = words (drop l.to_till w.from_terminal) in
      subst (λ x. Returns w.terminal.ledger (asked_on w l) w.till x) (sym (append-nil said)) (prefix-returns w.terminal.ledger (asked_on w l) w.till said (words (script_of w.terminal.phase)) k)

  -- what holds of both ends and of the line between them
  record Stands (w : Facts) (l : Line) : Type 0 where
    line : LineHolds w l
    matching : (Holds given) w
    returning : Returning w l

  move-stands : MovesKeep Stands
  move-stands w l x e i = record { line = move-holds w l x e i.line; matching = (move-matches given) w x i.matching; returning = move-returns w l x e i.line i.matching i.returning }

  first-stands : Stands (meaning (ends_with given)) no_line
  first-stands = record { line = start given; matching = first-holds given few; returning = record { asks = tt; taken = λ n w. absurd cc } }

awaits-reverses : (place : ℕ) (asked : List Asked) (run : Option Running) (rest : List Heard) → Awaits place asked run rest → Reverses place run
awaits-reverses place asked None rest p = p
awaits-reverses place asked (Some r) rest p = p.0

pub orderly_worlds_keep_reversals : OrderlyWorldsKeepReversals
orderly_worlds_keep_reversals settings moves few f e =
    let held = orderly-worlds settings few (Stands settings few) (move-stands settings few) (first-stands settings few) moves f e in
    let w = meaning (world_with settings moves) in
    let asked = asked_on w held.0 in
    let rest = rest_on w held.0 in
    λ n t.
    let k = known-same w.till.book (λ place. Awaits place asked w.till.running rest) (λ place. Reverses place w.till.running) (λ place p. awaits-reverses place asked w.till.running rest p) n (held.1.returning.taken n t) in
    (k.0, k.1.0, k.1.1, k.1.2, k.1.3)

-- after the last move
pub keeps_reversals : (moves : List Move) (i : ℕ) (w : Ends) → length moves ≤ i → w ≡ world (take i moves) → FitMoves (take i moves) → IsTrue (are_orderly moves) → KeepsReversals w.till w.terminal.ledger
keeps_reversals moves i w le is f e =
    let all : take i moves ≡ moves = take_all i moves le in
    let orderly : IsTrue (are_orderly (take i moves)) = subst (λ (xs : List Move). IsTrue (are_orderly xs)) (sym all) e in
    subst (λ (v : Ends). KeepsReversals v.till v.terminal.ledger) (sym is) (orderly_worlds_keep_reversals run_settings (take i moves) (omega arith, refl) f orderly)
