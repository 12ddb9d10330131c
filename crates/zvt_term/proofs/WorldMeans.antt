-- A world of messages is the world of what they mean, so that what holds of the one holds of the other.
use Rattle.std.proofs.Common.{◌≡◌, ℕ, ◌<◌, ◌≤◌, Bool, true, false, cond, nat_eq, List, [], ◌∷◌, ◌++◌, length, Option, Some, None, fold, map, refl, sym, ap, subst, ◌∙◌, slice_get, get_or, take, ◌+◌, add-one, option_map, option_to_list, arith}
use Rattle.std.specs.List.{IsDistinct}
use Rattle.std.proofs.Math.Seq.{take-suc}
use Rattle.std.proofs.lemmas.Option.{slice_get-map}
use Rattle.std.proofs.lemmas.List.{map-append}
use Rattle.std.proofs.lemmas.List.Sums.{fold-append}
use Rattle.zvt_apdu.specs.Message.{Message}
use Rattle.zvt_till.specs.declared.happenings.Happening.{Happening}
use Rattle.zvt_till.specs.declared.happenings.Happening.TheVariants.{Connected, Sent as SentOut, Heard as HeardIn, Lost}
use Rattle.zvt_till.specs.declared.messages.Heard.{Heard}
use Rattle.zvt_till.specs.declared.orders.Order.{Order}
use Rattle.zvt_till.specs.declared.orders.Order.TheVariants.{Register, Pay, Reverse, CloseDay, Cancel}
use Rattle.zvt_till.specs.declared.orders.OrderRefusal.{OrderRefusal}
use Rattle.zvt_till.specs.Hearing.{heard_as}
use Rattle.zvt_till.specs.Laws.{trace_of}
use Rattle.zvt_till.specs.Refusals.{refusal, sent_as}
use Rattle.zvt_till.specs.Sending.{Settings, message_of, reply_to}
use Rattle.zvt_till.specs.Till.{TillState, new_till, accept, step, state_after, facts_of}
use Rattle.zvt_till.proofs.Distinct.{traces_stay_distinct}
use Rattle.zvt_till.proofs.BookStepLemmas.{settings-accepted, settings-step}
use Rattle.zvt_term.specs.declared.turns.Verdict.{Verdict}
use Rattle.zvt_term.specs.declared.world.Move.{Move}
use Rattle.zvt_term.specs.declared.world.Move.TheVariants.{Connect, Order as Ordered, ToTerminal, ToTill, TillLost, TerminalLost}
use Rattle.zvt_term.specs.Asking.{asked_as}
use Rattle.zvt_term.specs.Inside.{IsSound}
use Rattle.zvt_term.specs.Reports.{message_of_report}
use Rattle.zvt_term.specs.Terminal.{turn_of, state_after as terminal_after, reports_to}
use Rattle.zvt_till.specs.Events.{run_settings}
use Rattle.zvt_term.specs.World.{Ends, ends_with, new_ends, sent_out, orders, reaches_terminal, reaches_till, move, world, world_with, FitOrder, FitMove, FitMoves, FitSettings, AllMatch, Matches, WorldsMatch}
use Rattle.zvt_term.proofs.Facts as facts
use Rattle.zvt_term.proofs.Facts.{Facts, heard_of, asked_out}
use Rattle.zvt_term.proofs.FactsMatch.{Holds, moves-hold}
use Rattle.zvt_term.proofs.Meanings.{FitCurrency, FitAsked, AllAsked, FitRows, asked-more, rows-more, asked-at, heard-reports, asked-out, out-fit, order-fit, reply-fit, turn-fit}
use Rattle.zvt_term.proofs.TurnLemmas.{turn-sound, sound-after, short-of}

abbrev pub meaning : Ends → Facts
meaning w = record { till = w.till; terminal = w.terminal; from_till = map asked_as w.from_till; from_terminal = map heard_as w.from_terminal }

-- given: the settings of the till
module _ (given : Settings) (few : FitSettings given) where
  -- the amounts and currencies are such that there are
  pub record Fit (w : Ends) : Type 0 where
    pub sound : IsSound w.terminal
    pub rows : FitRows w.terminal.ledger
    pub kept : FitCurrency w.terminal.currency
    pub settings : w.till.settings ≡ given
    pub asked : AllAsked (map asked_as w.from_till)

  -- one message more of the till
  sent-means : (ms more : List Message) → (asked : List _) → map asked_as more ≡ asked → map asked_as (ms ++ more) ≡ map asked_as ms ++ asked
  sent-means ms more asked e = map-append asked_as ms more ∙ ap (λ x. map asked_as ms ++ x) e

  few-currencies : (s : Settings) → s ≡ given → s.currency ≤ 9999
  few-currencies s e = (subst FitSettings (sym e) few).0

  orders-mean : (w : Ends) (o : Order) (why : Option OrderRefusal) → FitOrder o → Fit w → meaning (orders w o why) ≡ facts.orders (meaning w) o why
  orders-mean w o None f k =
      let out = message_of w.till.settings w.till.book o in
      ap (λ x. record { till = accept w.till o; terminal = w.terminal; from_till = x; from_terminal = map heard_as w.from_terminal })
      (sent-means w.from_till (sent_out out) (asked_out out) (asked-out out (order-fit w.till.settings w.till.book o (few-currencies w.till.settings k.settings) f)))
  orders-mean w o (Some why) f k = refl

  orders-fit : (w : Ends) (o : Order) (why : Option OrderRefusal) → FitOrder o → Fit w → Fit (orders w o why)
  orders-fit w o None f k =
      let out = message_of w.till.settings w.till.book o in
      let fit = order-fit w.till.settings w.till.book o (few-currencies w.till.settings k.settings) f in
      record {
        sound = k.sound;
        rows = k.rows;
        kept = k.kept;
        settings = settings-accepted w.till (Some o) ∙ k.settings;
        asked = subst AllAsked (sym (sent-means w.from_till (sent_out out) (asked_out out) (asked-out out fit))) (asked-more (map asked_as w.from_till) (asked_out out) k.asked (out-fit out fit));
      }
  orders-fit w o (Some why) f k = k

  reaches_terminal-mean : (w : Ends) (v : Verdict) (m : Option Message) → Fit w → ((x : Message) → m ≡ Some x → FitAsked (asked_as x))
      → meaning (reaches_terminal w v m) ≡ facts.reaches_terminal (meaning w) v (option_map asked_as m)
  reaches_terminal-mean w v None k f = refl
  reaches_terminal-mean w v (Some m) k f =
      let asked = asked_as m in
      let reports = reports_to w.terminal asked v in
      let said : map heard_as (w.from_terminal ++ map message_of_report reports) ≡ map heard_as w.from_terminal ++ map heard_of reports =
      map-append heard_as w.from_terminal (map message_of_report reports)
      ∙ ap (λ x. map heard_as w.from_terminal ++ x) (heard-reports reports ((turn-sound w.terminal asked v).writable (short-of w.terminal k.sound)) (turn-fit w.terminal asked v k.kept k.rows (f m refl)).1) in
      ap (λ x. record { till = w.till; terminal = terminal_after w.terminal asked v; from_till = map asked_as w.from_till; from_terminal = x }) said

  reaches_terminal-fit : (w : Ends) (v : Verdict) (m : Option Message) → Fit w → ((x : Message) → m ≡ Some x → FitAsked (asked_as x)) → Fit (reaches_terminal w v m)
  reaches_terminal-fit w v None k f = k
  reaches_terminal-fit w v (Some m) k f =
      let asked = asked_as m in
      record {
        sound = sound-after w.terminal asked v k.sound;
        rows = rows-more w.terminal.ledger (option_to_list (turn_of w.terminal asked v).row) k.rows (turn-fit w.terminal asked v k.kept k.rows (f m refl)).0;
        kept = (turn-fit w.terminal asked v k.kept k.rows (f m refl)).2;
        settings = k.settings;
        asked = k.asked;
      }

  answers-mean : (up : Bool) (m : Heard) → map asked_as (cond up (sent_out (reply_to m)) []) ≡ facts.answer_to up m
  answers-mean true m = asked-out (reply_to m) (reply-fit m)
  answers-mean false m = refl

  answers-fit : (up : Bool) (m : Heard) → AllAsked (facts.answer_to up m)
  answers-fit true m = out-fit (reply_to m) (reply-fit m)
  answers-fit false m = tt

  reaches_till-mean : (w : Ends) (m : Option Message) → meaning (reaches_till w m) ≡ facts.reaches_till (meaning w) (option_map heard_as m)
  reaches_till-mean w None = refl
  reaches_till-mean w (Some m) =
      ap (λ x. record { till = step w.till (HeardIn (heard_as m)); terminal = w.terminal; from_till = x; from_terminal = map heard_as w.from_terminal })
      (sent-means w.from_till (cond w.till.line_up (sent_out (reply_to (heard_as m))) []) (facts.answer_to w.till.line_up (heard_as m)) (answers-mean w.till.line_up (heard_as m)))

  reaches_till-fit : (w : Ends) (m : Option Message) → Fit w → Fit (reaches_till w m)
  reaches_till-fit w None k = k
  reaches_till-fit w (Some m) k =
      let more = facts.answer_to w.till.line_up (heard_as m) in
      record {
        sound = k.sound;
        rows = k.rows;
        kept = k.kept;
        settings = settings-step w.till (HeardIn (heard_as m)) ∙ k.settings;
        asked =
            subst AllAsked (sym (sent-means w.from_till (cond w.till.line_up (sent_out (reply_to (heard_as m))) []) more (answers-mean w.till.line_up (heard_as m))))
            (asked-more (map asked_as w.from_till) more k.asked (answers-fit w.till.line_up (heard_as m)));
      }

  -- a message of the till that was sent asks for what there is
  delivered-fit : (w : Ends) (k : ℕ) → Fit w → (x : Message) → slice_get w.from_till k ≡ Some x → FitAsked (asked_as x)
  delivered-fit w k f x e = asked-at (map asked_as w.from_till) k (asked_as x) f.asked (slice_get-map asked_as w.from_till k ∙ ap (option_map asked_as) e)

  pub move-means : (w : Ends) (x : Move) → FitMove x → Fit w → meaning (move w x) ≡ facts.move (meaning w) x
  move-means w Connect f k = refl
  move-means w (Ordered o) f k = orders-mean w o (refusal (facts_of w.till) o) f k
  move-means w (ToTerminal i v) f k =
      reaches_terminal-mean w v (slice_get w.from_till i) k (delivered-fit w i k) ∙ ap (λ m. facts.reaches_terminal (meaning w) v m) (sym (slice_get-map asked_as w.from_till i))
  move-means w (ToTill i) f k = reaches_till-mean w (slice_get w.from_terminal i) ∙ ap (λ m. facts.reaches_till (meaning w) m) (sym (slice_get-map heard_as w.from_terminal i))
  move-means w TillLost f k = refl
  move-means w TerminalLost f k = refl

  pub move-fit : (w : Ends) (x : Move) → FitMove x → Fit w → Fit (move w x)
  move-fit w Connect f k = record { sound = k.sound; rows = k.rows; kept = k.kept; settings = k.settings; asked = k.asked }
  move-fit w (Ordered o) f k = orders-fit w o (refusal (facts_of w.till) o) f k
  move-fit w (ToTerminal i v) f k = reaches_terminal-fit w v (slice_get w.from_till i) k (delivered-fit w i k)
  move-fit w (ToTill i) f k = reaches_till-fit w (slice_get w.from_terminal i) k
  move-fit w TillLost f k = record { sound = k.sound; rows = k.rows; kept = k.kept; settings = settings-step w.till Lost ∙ k.settings; asked = k.asked }
  move-fit w TerminalLost f k = record { sound = k.sound; rows = k.rows; kept = tt; settings = k.settings; asked = k.asked }

  moves-mean : (w : Ends) (moves : List Move) → FitMoves moves → Fit w → meaning (fold move w moves) ≡ fold facts.move (meaning w) moves
  moves-mean w [] f k = refl
  moves-mean w (x ∷ moves) f k = moves-mean (move w x) moves f.1 (move-fit w x f.0 k) ∙ ap (λ v. fold facts.move v moves) (move-means w x f.0 k)

  pub new-fit : Fit (ends_with given)
  new-fit = record { sound = (omega arith, omega arith, tt, tt); rows = tt; kept = tt; settings = refl; asked = tt }

  pub world-means : (moves : List Move) → FitMoves moves → meaning (world_with given moves) ≡ fold facts.move (meaning (ends_with given)) moves
  world-means moves f = moves-mean (ends_with given) moves f new-fit

  -- the till's state is that of some log, so that its trace numbers are distinct

  abbrev Logged : TillState → Type 0
  Logged s = (log : List Happening) × (s ≡ state_after given log)

  logged-step : (s : TillState) (h : Happening) → Logged s → Logged (step s h)
  logged-step s h w = (w.0 ++ h ∷ [], ap (λ x. step x h) w.1 ∙ sym (fold-append step (new_till given) w.0 (h ∷ [])))

  accept-step : (s : TillState) (o : Order) → step s (SentOut (sent_as given.currency o)) ≡ accept s o
  accept-step s Register = refl
  accept-step s (Pay a) = refl
  accept-step s (Reverse e) = refl
  accept-step s CloseDay = refl
  accept-step s Cancel = refl

  logged-order : (w : Ends) (o : Order) (why : Option OrderRefusal) → Logged w.till → Logged (orders w o why).till
  logged-order w o None k = subst Logged (accept-step w.till o) (logged-step w.till (SentOut (sent_as given.currency o)) k)
  logged-order w o (Some why) k = k

  logged-terminal : (w : Ends) (v : Verdict) (m : Option Message) → Logged w.till → Logged (reaches_terminal w v m).till
  logged-terminal w v None k = k
  logged-terminal w v (Some m) k = k

  logged-till : (w : Ends) (m : Option Message) → Logged w.till → Logged (reaches_till w m).till
  logged-till w None k = k
  logged-till w (Some m) k = logged-step w.till (HeardIn (heard_as m)) k

  logged-move : (w : Ends) (x : Move) → Logged w.till → Logged (move w x).till
  logged-move w Connect k = logged-step w.till Connected k
  logged-move w (Ordered o) k = logged-order w o (refusal (facts_of w.till) o) k
  logged-move w (ToTerminal i v) k = logged-terminal w v (slice_get w.from_till i) k
  logged-move w (ToTill i) k = logged-till w (slice_get w.from_terminal i) k
  logged-move w TillLost k = logged-step w.till Lost k
  logged-move w TerminalLost k = k

  logged-moves : (w : Ends) (moves : List Move) → Logged w.till → Logged (fold move w moves).till
  logged-moves w [] k = k
  logged-moves w (x ∷ moves) k = logged-moves (move w x) moves (logged-move w x k)

  pub first-holds : (Holds given) (meaning (ends_with given))
  first-holds = record { heard = tt; sound = (omega arith, omega arith, tt, tt); till = record { running = tt; book = tt; named = few.1 }; settings = refl; named = tt; kept = λ e. absurd cc }

  matching : (moves : List Move) → FitMoves moves → Matches (world_with given moves).till (world_with given moves).terminal.ledger
  matching moves f =
      let held = (moves-hold given) (meaning (ends_with given)) moves first-holds in
      let w : Facts = fold facts.move (meaning (ends_with given)) moves in
      let log : Logged (world_with given moves).till = logged-moves (ends_with given) moves ([], refl) in
      record {
        distinct = subst (λ (s : TillState). IsDistinct nat_eq (map trace_of s.book)) (sym log.1) (traces_stay_distinct given log.0);
        entries =
            subst (λ (x : Facts). AllMatch x.till.settings.currency x.terminal.ledger x.till.book) (sym (world-means moves f))
            (subst (λ (k : Settings). AllMatch k.currency w.terminal.ledger w.till.book) (sym held.settings) held.till.book);
      }

pub worlds_match : WorldsMatch
worlds_match settings moves few f = matching settings few moves f

-- one move more

pub worlds-more : (moves : List Move) (i : ℕ) (x : Move) (before after : Ends) → i < length moves → x ≡ get_or moves i x → before ≡ world (take i moves) → after ≡ move before x
    → after ≡ world (take (i + 1) moves)
worlds-more moves i x before after lt is was now =
    let longer : take (i + 1) moves ≡ take i moves ++ x ∷ [] = ap (λ k. take k moves) (add-one i) ∙ take-suc moves i x lt ∙ ap (λ (y : Move). take i moves ++ y ∷ []) (sym is) in
    now ∙ ap (λ (w : Ends). move w x) was ∙ sym (fold-append move new_ends (take i moves) (x ∷ [])) ∙ ap world (sym longer)

fit-append : (xs ys : List Move) → FitMoves xs → FitMoves ys → FitMoves (xs ++ ys)
fit-append [] ys h k = k
fit-append (x ∷ xs) ys h k = (h.0, fit-append xs ys h.1 k)

pub fit-more : (moves : List Move) (i : ℕ) (x : Move) → i < length moves → x ≡ get_or moves i x → FitMoves (take i moves) → FitMove x → FitMoves (take (i + 1) moves)
fit-more moves i x lt is h k =
    let longer : take (i + 1) moves ≡ take i moves ++ x ∷ [] = ap (λ k. take k moves) (add-one i) ∙ take-suc moves i x lt ∙ ap (λ (y : Move). take i moves ++ y ∷ []) (sym is) in
    subst FitMoves (sym longer) (fit-append (take i moves) (x ∷ []) h (k, tt))

-- after the last move
pub matched : (moves : List Move) (i : ℕ) (w : Ends) → length moves ≤ i → w ≡ world (take i moves) → FitMoves (take i moves) → Matches w.till w.terminal.ledger
matched moves i w le is h = subst (λ (v : Ends). Matches v.till v.terminal.ledger) (sym is) (worlds_match run_settings (take i moves) (omega arith, refl) h)
