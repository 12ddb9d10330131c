-- Over lines that keep order, each approval is booked, unclear or still awaited.
use Rattle.std.proofs.Common.{◌≡◌, ℕ, zero, suc, ◌+◌, ◌<◌, ◌≤◌, Bool, true, false, not, cond, ◌&&◌, ◌==◌, nat_lt, List, [], ◌∷◌, ◌++◌, length, drop, take, Option, Some, None, map, fold, IsTrue, refl, sym, ap, subst, ◌∙◌, append-nil, append_assoc, length-append, slice_get, eqb-true, arith}
use Rattle.std.proofs.Math.Seq.{drop-length}
use Rattle.std.proofs.lemmas.Bool.{ltb-true}
use Rattle.std.proofs.lemmas.List.{drop-append-le, length-map, take_all}
use Rattle.std.proofs.lemmas.List.Elements.{filter-append}
use Rattle.zvt_till.specs.declared.happenings.Happening.TheVariants.{Connected, Heard as HeardIn}
use Rattle.zvt_till.specs.declared.messages.Heard.{Heard}
use Rattle.zvt_till.specs.declared.messages.Heard.TheVariants.{Positive, Negative, Status, Passing, Completion, Abort, Strange}
use Rattle.zvt_till.specs.declared.orders.Order.{Order}
use Rattle.zvt_till.specs.declared.orders.OrderRefusal.{OrderRefusal}
use Rattle.zvt_till.specs.declared.orders.OrderRefusal.TheVariants.{Offline}
use Rattle.zvt_till.specs.Refusals.{Facts as OrderFacts, session_refusal, asked_refusal, line_refusal, refusal, or_else}
use Rattle.zvt_till.specs.Events.{run_settings}
use Rattle.zvt_till.specs.Sending.{Settings, message_of}
use Rattle.zvt_till.specs.Till.{TillState, accept, step, facts_of}
use Rattle.zvt_term.specs.declared.messages.Asked.{Asked}
use Rattle.zvt_term.specs.declared.ledger.Row.{Row}
use Rattle.zvt_term.specs.declared.turns.Verdict.{Verdict}
use Rattle.zvt_term.specs.declared.turns.Phase.{Phase}
use Rattle.zvt_term.specs.declared.turns.Phase.TheVariants.{Idle}
use Rattle.zvt_term.specs.declared.world.Move.{Move}
use Rattle.zvt_term.specs.declared.world.Move.TheVariants.{Connect, Order as Ordered, ToTerminal, ToTill, TillLost, TerminalLost}
use Rattle.zvt_till.specs.Hearing.{heard_as}
use Rattle.zvt_term.specs.Asking.{asked_as}
use Rattle.zvt_term.specs.Orderly.{Line, no_line, is_orderly, line_after, are_orderly_from, are_orderly, are_orderly_with, IsAccounted, OrderlyWorldsAccount}
use Rattle.zvt_term.specs.Terminal.{TerminalState, turn_of, reports_of}
use Rattle.zvt_term.specs.World.{Ends, ends_with, move as ends_move, world, world_with, FitMove, FitMoves, FitSettings}
use Rattle.zvt_term.proofs.Facts.{Facts, heard_of, asked_out, answer_to, orders, reaches_terminal, reaches_till, move}
use Rattle.zvt_term.proofs.Accounts.{orders_in, is_order, is_word, words, Accounts, Covered, Dialogue}
use Rattle.zvt_term.proofs.Talking.{Talks, Down, till-hears, line_up-heard, till-loses, dialogue-prefix, till-accepts, line_up-accepted}
use Rattle.zvt_term.proofs.Answering.{script_of, speech, ledger_after, decided-covered, terminal-hears-talks}
use Rattle.zvt_term.proofs.WorldMeans.{meaning, Fit, move-means, move-fit, new-fit}

-- lists of messages, sent and not yet delivered

pub and-left : (a b : Bool) → (a && b) ≡ true → a ≡ true
and-left true b e = refl
and-left false b e = absurd cc

pub and-right : (a b : Bool) → (a && b) ≡ true → b ≡ true
and-right true b e = e
and-right false b e = absurd cc

pub not-true : (b : Bool) → not b ≡ true → b ≡ false
not-true true e = absurd cc
not-true false e = refl

pub record NextOf {X : Type 0} (sent : List X) (k : ℕ) : Type 0 where
  pub message : X
  pub is_next : slice_get sent k ≡ Some message
  pub waiting : drop k sent ≡ message ∷ drop (k + 1) sent

pub next-of : {X : Type 0} (sent : List X) (k : ℕ) → k < length sent → NextOf sent k
next-of [] k lt = absurd (omega arith)
next-of (x ∷ xs) zero lt = record { message = x; is_next = refl; waiting = refl }
next-of (x ∷ xs) (suc k) lt =
    let n : NextOf xs k = next-of xs k (omega arith) in
    let step : suc k + 1 ≡ suc (k + 1) = omega arith in
    record { message = n.message; is_next = n.is_next; waiting = subst (λ j. drop k xs ≡ n.message ∷ drop j (x ∷ xs)) (sym step) n.waiting }

pub asked-more : (k : ℕ) (sent more : List Asked) → k ≤ length sent → orders_in (drop k (sent ++ more)) ≡ orders_in (drop k sent) ++ orders_in more
asked-more k sent more le = ap orders_in (drop-append-le k sent more le) ∙ filter-append is_order (drop k sent) more

pub said-more : (k : ℕ) (sent more : List Heard) (rest : List Heard) → k ≤ length sent → words (drop k (sent ++ more)) ++ rest ≡ words (drop k sent) ++ (words more ++ rest)
said-more k sent more rest le =
    ap (λ x. words x ++ rest) (drop-append-le k sent more le) ∙ ap (λ x. x ++ rest) (filter-append is_word (drop k sent) more) ∙ append_assoc (words (drop k sent)) (words more) rest

-- both ends

abbrev pub asked_on : Facts → Line → List Asked
asked_on w l = orders_in (drop l.to_terminal w.from_till)

abbrev pub rest_on : Facts → Line → List Heard
rest_on w l = words (drop l.to_till w.from_terminal) ++ words (script_of w.terminal.phase)

abbrev pub Standing : Bool → List Row → List Asked → TillState → List Heard → Type 0
Standing true l asked s rest = Down l asked s
Standing false l asked s rest = (s.line_up ≡ true) × Talks l asked s rest

pub record LineHolds (w : Facts) (l : Line) : Type 0 where
  pub till_sent : l.to_terminal ≤ length w.from_till
  pub terminal_sent : l.to_till ≤ length w.from_terminal
  pub silent : l.terminal_lost ≡ true → w.terminal.phase ≡ Idle
  pub standing : Standing l.till_lost w.terminal.ledger (asked_on w l) w.till (rest_on w l)

pub down_of : (b : Bool) (l : List Row) (asked : List Asked) (s : TillState) (rest : List Heard) → b ≡ true → Standing b l asked s rest → Down l asked s
down_of true l asked s rest e k = k
down_of false l asked s rest e k = absurd cc

connected-accounts : (l : List Row) (asked : List Asked) (s : TillState) → Covered l asked s.book s.unclear → Accounts l [] s.book s.unclear s.running
connected-accounts l asked s c = λ b. let n = c b in omega (arith, n)

connects : (w : Facts) (l : Line) → (l.till_lost && l.terminal_lost) ≡ true → LineHolds w l → LineHolds (move w Connect) (line_after (length w.from_till) (length w.from_terminal) l Connect)
connects w l e i =
    let down = down_of l.till_lost w.terminal.ledger (asked_on w l) w.till (rest_on w l) (and-left l.till_lost l.terminal_lost e) i.standing in
    let no_script = i.silent (and-right l.till_lost l.terminal_lost e) in
    let s = step w.till Connected in
    let ledger = w.terminal.ledger in
    let nothing : words (script_of w.terminal.phase) ≡ [] = ap (λ (p : Phase). words (script_of p)) no_script in
    let quiet : Dialogue ledger [] s.book s.unclear s.running [] = subst (λ o. Dialogue ledger [] s.book s.unclear o []) (sym down.resting) (refl, refl) in
    let talks : Talks ledger [] s [] = record { accounts = connected-accounts ledger (asked_on w l) w.till down.covered; dialogue = quiet } in
    let no_asked : orders_in (drop (length w.from_till) w.from_till) ≡ [] = ap orders_in (drop-length w.from_till) in
    let no_rest : words (drop (length w.from_terminal) w.from_terminal) ++ words (script_of w.terminal.phase) ≡ [] =
    ap (λ x. words x ++ words (script_of w.terminal.phase)) (drop-length w.from_terminal) ∙ nothing in
    record {
      till_sent = omega arith;
      terminal_sent = omega arith;
      silent = λ q. absurd cc;
      standing = (refl, subst (λ x. Talks ledger x s (words (drop (length w.from_terminal) w.from_terminal) ++ words (script_of w.terminal.phase))) (sym no_asked) (subst (λ x. Talks ledger [] s x) (sym no_rest) talks));
    }

pub or-else-parts : (first second : Option OrderRefusal) → or_else first second ≡ None → (first ≡ None) × (second ≡ None)
or-else-parts None second e = (refl, e)
or-else-parts (Some why) second e = absurd cc

pub offline : (f : OrderFacts) (o : Order) → f.line_up ≡ false → refusal f o ≡ None → ⊥
offline f o e r = by_line f.line_up e (or-else-parts (line_refusal f o) (asked_refusal f o) r).0
  where
    by_line : (b : Bool) → b ≡ false → cond b (session_refusal f o) (Some Offline) ≡ None → ⊥
    by_line true q r = cc
    by_line false q r = cc

pub online : (f : OrderFacts) (o : Order) → f.line_up ≡ true → refusal f o ≡ None → session_refusal f o ≡ None
online f o e r = by_line f.line_up e (or-else-parts (line_refusal f o) (asked_refusal f o) r).0
  where
    by_line : (b : Bool) → b ≡ true → cond b (session_refusal f o) (Some Offline) ≡ None → session_refusal f o ≡ None
    by_line true q r = r
    by_line false q r = absurd cc

ordered-standing : (b : Bool) (l : List Row) (asked : List Asked) (s : TillState) (o : Order) (rest : List Heard) → refusal (facts_of s) o ≡ None → Standing b l asked s rest
    → Standing b l (asked ++ orders_in (asked_out (message_of s.settings s.book o))) (accept s o) rest
ordered-standing true l asked s o rest e k = absurd (offline (facts_of s) o k.line e)
ordered-standing false l asked s o rest e (up, k) = (line_up-accepted s o ∙ up, till-accepts l asked s o rest (online (facts_of s) o up e) (or-else-parts (line_refusal (facts_of s) o) (asked_refusal (facts_of s) o) e).1 k)

orders-hold : (w : Facts) (l : Line) (o : Order) (why : Option OrderRefusal) → refusal (facts_of w.till) o ≡ why → LineHolds w l → LineHolds (orders w o why) l
orders-hold w l o (Some why) e i = i
orders-hold w l o None e i =
    let more = asked_out (message_of w.till.settings w.till.book o) in
    let longer : length (w.from_till ++ more) ≡ length w.from_till + length more = length-append w.from_till more in
    let till_sent = i.till_sent in
    record {
      till_sent = omega (arith, longer, till_sent);
      terminal_sent = i.terminal_sent;
      silent = i.silent;
      standing =
          subst (λ x. Standing l.till_lost w.terminal.ledger x (accept w.till o) (rest_on w l)) (sym (asked-more l.to_terminal w.from_till more i.till_sent))
          (ordered-standing l.till_lost w.terminal.ledger (asked_on w l) w.till o (rest_on w l) e i.standing);
    }

decided-standing : (b : Bool) (t : TerminalState) (m : Asked) (v : Verdict) (q : List Asked) (s : TillState) (said : List Heard)
    → Standing b t.ledger (orders_in (m ∷ q)) s (said ++ words (script_of t.phase))
    → Standing b (ledger_after t (turn_of t m v)) (orders_in q) s (said ++ speech (turn_of t m v))
decided-standing true t m v q s said k = record { covered = decided-covered t m v q s.book s.unclear k.covered; line = k.line; resting = k.resting }
decided-standing false t m v q s said (up, k) = (up, terminal-hears-talks t m v q s said k)

terminal-reached : (w : Facts) (l : Line) (v : Verdict) → l.to_terminal < length w.from_till → l.terminal_lost ≡ false → LineHolds w l
    → LineHolds (reaches_terminal w v (slice_get w.from_till l.to_terminal)) (record l { to_terminal = l.to_terminal + 1 })
terminal-reached w l v lt up i =
    let next = next-of w.from_till l.to_terminal lt in
    let m = next.message in
    let turn = turn_of w.terminal m v in
    let sent = map heard_of (reports_of turn.reply) in
    let q = drop (l.to_terminal + 1) w.from_till in
    let said = words (drop l.to_till w.from_terminal) in
    let longer : length (w.from_terminal ++ sent) ≡ length w.from_terminal + length sent = length-append w.from_terminal sent in
    let terminal_sent = i.terminal_sent in
    let before : Standing l.till_lost w.terminal.ledger (orders_in (m ∷ q)) w.till (rest_on w l) =
    subst (λ x. Standing l.till_lost w.terminal.ledger (orders_in x) w.till (rest_on w l)) next.waiting i.standing in
    let now = decided-standing l.till_lost w.terminal m v q w.till said before in
    let here : LineHolds (reaches_terminal w v (Some m)) (record l { to_terminal = l.to_terminal + 1 }) =
    record {
      till_sent = omega arith;
      terminal_sent = omega (arith, longer, terminal_sent);
      silent = λ e. absurd cc;
      standing =
          subst (λ x. Standing l.till_lost (ledger_after w.terminal turn) (orders_in q) w.till x)
          (sym (said-more l.to_till w.from_terminal sent (words (script_of turn.phase)) i.terminal_sent)) now;
    } in
    subst (λ o. LineHolds (reaches_terminal w v o) (record l { to_terminal = l.to_terminal + 1 })) (sym next.is_next) here

pub no_orders : (b : Bool) (m : Heard) → orders_in (answer_to b m) ≡ []
no_orders false m = refl
no_orders true Positive = refl
no_orders true (Negative code) = refl
no_orders true (Status f) = refl
no_orders true Passing = refl
no_orders true Completion = refl
no_orders true (Abort code) = refl
no_orders true Strange = refl

heard-standing : (b : Bool) (l : List Row) (asked : List Asked) (s : TillState) (m : Heard) (q coming : List Heard) → b ≡ false
    → Standing b l asked s (words (m ∷ q) ++ coming) → Standing b l asked (step s (HeardIn m)) (words q ++ coming)
heard-standing true l asked s m q coming e k = absurd cc
heard-standing false l asked s m q coming e (up, k) = (line_up-heard s m ∙ up, till-hears l asked s m q coming up k)

till-reached : (w : Facts) (l : Line) → l.to_till < length w.from_terminal → l.till_lost ≡ false → LineHolds w l
    → LineHolds (reaches_till w (slice_get w.from_terminal l.to_till)) (record l { to_till = l.to_till + 1 })
till-reached w l lt up i =
    let next = next-of w.from_terminal l.to_till lt in
    let m = next.message in
    let q = drop (l.to_till + 1) w.from_terminal in
    let coming = words (script_of w.terminal.phase) in
    let more = answer_to w.till.line_up m in
    let longer : length (w.from_till ++ more) ≡ length w.from_till + length more = length-append w.from_till more in
    let till_sent = i.till_sent in
    let before : Standing l.till_lost w.terminal.ledger (asked_on w l) w.till (words (m ∷ q) ++ coming) =
    subst (λ x. Standing l.till_lost w.terminal.ledger (asked_on w l) w.till (words x ++ coming)) next.waiting i.standing in
    let after = heard-standing l.till_lost w.terminal.ledger (asked_on w l) w.till m q coming up before in
    let same : orders_in (drop l.to_terminal (w.from_till ++ more)) ≡ asked_on w l =
    asked-more l.to_terminal w.from_till more i.till_sent ∙ ap (λ x. asked_on w l ++ x) (no_orders w.till.line_up m) ∙ append-nil (asked_on w l) in
    let here : LineHolds (reaches_till w (Some m)) (record l { to_till = l.to_till + 1 }) =
    record {
      till_sent = omega (arith, longer, till_sent);
      terminal_sent = omega arith;
      silent = i.silent;
      standing = subst (λ x. Standing l.till_lost w.terminal.ledger x (step w.till (HeardIn m)) (words q ++ coming)) (sym same) after;
    } in
    subst (λ o. LineHolds (reaches_till w o) (record l { to_till = l.to_till + 1 })) (sym next.is_next) here

standing-accounts : (b : Bool) (l : List Row) (asked : List Asked) (s : TillState) (rest : List Heard) → Standing b l asked s rest → Accounts l asked s.book s.unclear s.running
standing-accounts true l asked s rest k = λ b. let c = k.covered b in omega (arith, c)
standing-accounts false l asked s rest k = k.1.accounts

standing-prefix : (b : Bool) (l : List Row) (asked : List Asked) (s : TillState) (xs ys : List Heard) → Standing b l asked s (xs ++ ys) → Standing b l asked s xs
standing-prefix true l asked s xs ys k = k
standing-prefix false l asked s xs ys (up, k) = (up, record { accounts = k.accounts; dialogue = dialogue-prefix l asked s.book s.unclear s.running xs ys k.dialogue })

-- an orderly delivery is of the first message that waits, to an end that has a line
pub terminal-delivered : (P : Facts → Line → Type 0) (w : Facts) (l : Line) (k : ℕ) (v : Verdict) → is_orderly (length w.from_till) (length w.from_terminal) l (ToTerminal k v) ≡ true
    → (l.to_terminal < length w.from_till → l.terminal_lost ≡ false → P (reaches_terminal w v (slice_get w.from_till l.to_terminal)) (record l { to_terminal = l.to_terminal + 1 }))
    → P (move w (ToTerminal k v)) (line_after (length w.from_till) (length w.from_terminal) l (ToTerminal k v))
terminal-delivered P w l k v e h =
    let named = k == l.to_terminal in
    let sent = nat_lt k (length w.from_till) in
    let first = and-left (named && sent) (not l.terminal_lost) e in
    let same : k ≡ l.to_terminal = eqb-true k l.to_terminal (and-left named sent first) in
    let within : k < length w.from_till = ltb-true k (length w.from_till) (and-right named sent first) in
    let up = not-true l.terminal_lost (and-right (named && sent) (not l.terminal_lost) e) in
    subst (λ n. P (reaches_terminal w v (slice_get w.from_till n)) (record l { to_terminal = n + 1 })) (sym same)
    (h (subst (λ n. n < length w.from_till) same within) up)

pub till-delivered : (P : Facts → Line → Type 0) (w : Facts) (l : Line) (k : ℕ) → is_orderly (length w.from_till) (length w.from_terminal) l (ToTill k) ≡ true
    → (l.to_till < length w.from_terminal → l.till_lost ≡ false → P (reaches_till w (slice_get w.from_terminal l.to_till)) (record l { to_till = l.to_till + 1 }))
    → P (move w (ToTill k)) (line_after (length w.from_till) (length w.from_terminal) l (ToTill k))
till-delivered P w l k e h =
    let named = k == l.to_till in
    let sent = nat_lt k (length w.from_terminal) in
    let first = and-left (named && sent) (not l.till_lost) e in
    let same : k ≡ l.to_till = eqb-true k l.to_till (and-left named sent first) in
    let within : k < length w.from_terminal = ltb-true k (length w.from_terminal) (and-right named sent first) in
    let up = not-true l.till_lost (and-right (named && sent) (not l.till_lost) e) in
    subst (λ n. P (reaches_till w (slice_get w.from_terminal n)) (record l { to_till = n + 1 })) (sym same)
    (h (subst (λ n. n < length w.from_terminal) same within) up)

pub move-holds : (w : Facts) (l : Line) (x : Move) → is_orderly (length w.from_till) (length w.from_terminal) l x ≡ true → LineHolds w l
    → LineHolds (move w x) (line_after (length w.from_till) (length w.from_terminal) l x)
move-holds w l Connect e i = connects w l e i
move-holds w l (Ordered o) e i = orders-hold w l o (refusal (facts_of w.till) o) refl i
move-holds w l (ToTerminal k v) e i = terminal-delivered LineHolds w l k v e (λ lt up. terminal-reached w l v lt up i)
move-holds w l (ToTill k) e i = till-delivered LineHolds w l k e (λ lt up. till-reached w l lt up i)
move-holds w l TillLost e i =
    record {
      till_sent = i.till_sent;
      terminal_sent = i.terminal_sent;
      silent = i.silent;
      standing = till-loses w.terminal.ledger (asked_on w l) w.till (standing-accounts l.till_lost w.terminal.ledger (asked_on w l) w.till (rest_on w l) i.standing);
    }
move-holds w l TerminalLost e i =
    let said = words (drop l.to_till w.from_terminal) in
    record {
      till_sent = i.till_sent;
      terminal_sent = i.terminal_sent;
      silent = λ q. refl;
      standing =
          subst (λ x. Standing l.till_lost w.terminal.ledger (asked_on w l) w.till x) (sym (append-nil said))
          (standing-prefix l.till_lost w.terminal.ledger (asked_on w l) w.till said (words (script_of w.terminal.phase)) i.standing);
    }

-- what each orderly move keeps
abbrev pub MovesKeep : (Facts → Line → Type 0) → Type 0
MovesKeep P =
    (w : Facts) (l : Line) (x : Move) → is_orderly (length w.from_till) (length w.from_terminal) l x ≡ true → P w l
    → P (move w x) (line_after (length w.from_till) (length w.from_terminal) l x)

-- given: the settings of the till
module _ (given : Settings) (few : FitSettings given) where
  -- a move of messages is the move of what they mean
  means-keeps : (P : Facts → Line → Type 0) → MovesKeep P → (w : Ends) (l : Line) (x : Move) → FitMove x → (Fit given few) w → is_orderly (length w.from_till) (length w.from_terminal) l x ≡ true → P (meaning w) l
      → P (meaning (ends_move w x)) (line_after (length w.from_till) (length w.from_terminal) l x)
  means-keeps P kept w l x f k e i =
      let m : length (map asked_as w.from_till) ≡ length w.from_till = length-map w.from_till asked_as in
      let n : length (map heard_as w.from_terminal) ≡ length w.from_terminal = length-map w.from_terminal heard_as in
      let orderly : is_orderly (length (map asked_as w.from_till)) (length (map heard_as w.from_terminal)) l x ≡ true =
      subst (λ (a : ℕ). is_orderly a (length (map heard_as w.from_terminal)) l x ≡ true) (sym m) (subst (λ (b : ℕ). is_orderly (length w.from_till) b l x ≡ true) (sym n) e) in
      let held = kept (meaning w) l x orderly i in
      subst (λ (y : Facts). P y (line_after (length w.from_till) (length w.from_terminal) l x)) (sym ((move-means given few) w x f k))
      (subst (λ (a : ℕ). P (move (meaning w) x) (line_after a (length w.from_terminal) l x)) m
      (subst (λ (b : ℕ). P (move (meaning w) x) (line_after (length (map asked_as w.from_till)) b l x)) n held))

  moves-keep : (P : Facts → Line → Type 0) → MovesKeep P → (w : Ends) (l : Line) (moves : List Move) → FitMoves moves → (Fit given few) w → are_orderly_from w l moves ≡ true → P (meaning w) l
      → (end : Line) × P (meaning (fold ends_move w moves)) end
  moves-keep P kept w l [] f k e i = (l, i)
  moves-keep P kept w l (x ∷ moves) f k e i =
      let next = line_after (length w.from_till) (length w.from_terminal) l x in
      let now = is_orderly (length w.from_till) (length w.from_terminal) l x in
      let later = are_orderly_from (ends_move w x) next moves in
      moves-keep P kept (ends_move w x) next moves f.1 ((move-fit given few) w x f.0 k) (and-right now later e) (means-keeps P kept w l x f.0 k (and-left now later e) i)

  -- what holds of two new ends and is stored by each orderly move holds of each orderly world
  pub orderly-worlds : (P : Facts → Line → Type 0) → MovesKeep P → P (meaning (ends_with given)) no_line → (moves : List Move) → FitMoves moves → IsTrue (are_orderly_with given moves)
      → (end : Line) × P (meaning (world_with given moves)) end
  orderly-worlds P kept first moves f e = moves-keep P kept (ends_with given) no_line moves f (new-fit given few) e first

pub start : (given : Settings) → LineHolds (meaning (ends_with given)) no_line
start given =
    record {
      till_sent = omega arith;
      terminal_sent = omega arith;
      silent = λ q. refl;
      standing = record { covered = λ b. omega arith; line = refl; resting = refl };
    }

pub orderly_worlds_account : OrderlyWorldsAccount
orderly_worlds_account settings moves few f e =
    let held = orderly-worlds settings few LineHolds move-holds (start settings) moves f e in
    let w = meaning (world_with settings moves) in
    λ b. let n = standing-accounts held.0.till_lost w.terminal.ledger (asked_on w held.0) w.till (rest_on w held.0) held.1.standing b in omega (arith, n)

-- after the last move
pub accounted : (moves : List Move) (i : ℕ) (w : Ends) → length moves ≤ i → w ≡ world (take i moves) → FitMoves (take i moves) → IsTrue (are_orderly moves) → IsAccounted w.till w.terminal.ledger
accounted moves i w le is f e =
    let all : take i moves ≡ moves = take_all i moves le in
    let orderly : IsTrue (are_orderly (take i moves)) = subst (λ (xs : List Move). IsTrue (are_orderly xs)) (sym all) e in
    subst (λ (v : Ends). IsAccounted v.till v.terminal.ledger) (sym is) (orderly_worlds_account run_settings (take i moves) (omega arith, refl) f orderly)
