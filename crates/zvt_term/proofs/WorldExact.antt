-- Over lines that keep order, the ledger has exactly the approvals that were counted.
use Rattle.std.proofs.Common.{Bool, List, None, Option, Some, [], arith, drop, false, fold, length, map, refl, slice_get, subst, sym, true, ℕ, ◌++◌, ◌+◌, ◌<◌, ◌∙◌, ◌∷◌, ◌≡◌}
use Rattle.std.proofs.lemmas.List.{length-map}
use Rattle.zvt_till.specs.Events.{run_settings}
use Rattle.zvt_till.specs.Hearing.{heard_as}
use Rattle.zvt_till.specs.Laws.{row_of}
use Rattle.zvt_till.specs.Refusals.{line_refusal, refusal}
use Rattle.zvt_till.specs.Till.{TillState, accept, facts_of}
use Rattle.zvt_till.specs.declared.messages.Heard.{Heard}
use Rattle.zvt_till.specs.declared.orders.Order.{Order}
use Rattle.zvt_till.specs.declared.orders.Order.TheVariants.{Cancel, CloseDay, Pay, Register, Reverse}
use Rattle.zvt_till.specs.declared.orders.OrderRefusal.{OrderRefusal}
use Rattle.zvt_till.specs.declared.outcomes.Cause.{Cause}
use Rattle.zvt_term.proofs.Accounting.{and-left, and-right, next-of, offline, online}
use Rattle.zvt_term.proofs.Accounts.{words}
use Rattle.zvt_term.proofs.Answering.{script_of}
use Rattle.zvt_term.specs.Orderly.{Line, approvals, line_after, no_line}
use Rattle.zvt_term.specs.Terminal.{TerminalState}
use Rattle.zvt_term.specs.declared.ledger.Row.{Row}
use Rattle.zvt_term.specs.declared.turns.Verdict.{Verdict}
use Rattle.zvt_term.specs.declared.world.Move.TheVariants.{Connect, Order as Ordered, TerminalLost, TillLost, ToTerminal, ToTill}
use Rattle.zvt_term.specs.AskedWorld.{Act, Asks, Does, Ends, FitAct, FitActs, act, act_orderly, asked_world, cable_after, new_ends, orderly_from, Exact}
use Rattle.zvt_settle.specs.Settling.{Settling, ask_refusal, asked, sent}
use Rattle.zvt_term.proofs.ActStands.{no-ask-refusal, no-refusal, off-line, up-of}
use Rattle.zvt_term.proofs.AskedFits.{Fit, act-fit, act-means, new-fit}
use Rattle.zvt_term.proofs.AskedMeans.{Meant, Word, act_meant, asks_meant, meaning, move_meant, orders_meant, refuses_meant, terminal_meant, till_meant, word_of}
use Rattle.zvt_term.proofs.LedgerRows.{all-named}
use Rattle.zvt_term.proofs.Standing.{Holds, StageAt, Stands, asked_on, requests, rest_on}
use Rattle.zvt_term.proofs.Tallies.{AllPlaced, Even, RunTally, Tally, even-of, paid, booked-entries, Counts}
use Rattle.zvt_term.proofs.TallyTerminal.{HangsAt, Tallied, terminal-tallies}
use Rattle.zvt_term.proofs.WorldSound.{act-means-so, at-first}
use Rattle.zvt_term.proofs.AskStands.{Ready}
use Rattle.zvt_term.proofs.TallyLines.{till-tallies, till-lapses, down-lapses, till-sends-tallies}
use Rattle.zvt_term.proofs.WorldComplete.{terminal-next, till-next}

-- ---- each act

counts-connect : (own : ℕ) (w : Meant) (c : Line) → Counts own w c → Counts own (move_meant w Connect) (line_after (length w.from_till) (length w.from_terminal) c Connect)
counts-connect own w c k = record { placed = k.placed; tally = k.tally; hangs = λ e. absurd cc }

counts-terminal : (own : ℕ) (w : Meant) (c : Line) (v : Verdict) → c.to_terminal < length w.from_till → Holds own w c → Counts own w c
    → Counts own (terminal_meant w v (slice_get w.from_till c.to_terminal)) (record c { to_terminal = c.to_terminal + 1 })
counts-terminal own w c v lt i k =
    let next = next-of w.from_till c.to_terminal lt in
    let m : Word = next.message in
    let s : TerminalState = w.terminal in
    let q = drop (c.to_terminal + 1) w.from_till in
    let named = all-named own s.ledger (map row_of w.till.book) i.sound.2 i.sound.1 i.fresh.books in
    let before : Stands c.till_lost own w.before s.ledger (requests (m ∷ q)) w.till w.settling (rest_on w c) =
    subst (λ x. Stands c.till_lost own w.before s.ledger (requests x) w.till w.settling (rest_on w c)) next.waiting i.stands in
    let tallied : Tallied c.till_lost own w.before s.ledger (requests (m ∷ q)) w.till w.settling =
    record { tally = k.tally; hangs = λ e. subst (λ x. HangsAt w.before s.ledger w.till w.settling (requests x)) next.waiting (k.hangs e) } in
    let after = terminal-tallies c.till_lost own w.before s m v q w.till w.settling (rest_on w c) (record { keeps = i.keeps; named = named }) before tallied in
    let here : Counts own (terminal_meant w v (Some m)) (record c { to_terminal = c.to_terminal + 1 }) = record { placed = k.placed; tally = after.tally; hangs = after.hangs } in
    subst (λ o. Counts own (terminal_meant w v o) (record c { to_terminal = c.to_terminal + 1 })) (sym next.is_next) here

counts-till : (own : ℕ) (w : Meant) (c : Line) → c.to_till < length w.from_terminal → c.till_lost ≡ false → Holds own w c → Counts own w c
    → Counts own (till_meant w (slice_get w.from_terminal c.to_till)) (record c { to_till = c.to_till + 1 })
counts-till own w c lt up i k =
    let next = next-of w.from_terminal c.to_till lt in
    let m : Heard = next.message in
    let q = drop (c.to_till + 1) w.from_terminal in
    let coming = words (script_of w.terminal.phase) in
    let l : List Row = w.terminal.ledger in
    let found = up-of c.till_lost own w.before l (asked_on w c) w.till w.settling (rest_on w c) up i.stands in
    let stage : StageAt own w.before l (asked_on w c) w.till w.settling (words (m ∷ q) ++ coming) =
    subst (λ x. StageAt own w.before l (asked_on w c) w.till w.settling (words x ++ coming)) next.waiting found.1 in
    let ready : Ready own l w.till w.settling = record { currency = i.currency; numbered = i.sound.2; few = i.sound.1; all = i.fresh.books; paid = i.fresh.paid } in
    let after = till-tallies own w.before l (asked_on w c) w.till w.settling m q coming k.placed k.tally ready found.0 stage in
    let here : Counts own (till_meant w (Some m)) (record c { to_till = c.to_till + 1 }) =
    record { placed = after.placed; tally = after.tally; hangs = λ e. let no : true ≡ false = sym e ∙ up in absurd cc } in
    subst (λ o. Counts own (till_meant w o) (record c { to_till = c.to_till + 1 })) (sym next.is_next) here

counts-lost-by : (down : Bool) (own : ℕ) (w : Meant) (c : Line) → c.till_lost ≡ down → Stands down own w.before w.terminal.ledger (asked_on w c) w.till w.settling (rest_on w c) → Counts own w c
    → Counts own (move_meant w TillLost) (record c { till_lost = true })
counts-lost-by true own w c e k n =
    let d = down-lapses own w.before w.terminal.ledger (asked_on w c) w.till w.settling k n.placed n.tally (n.hangs e) in record { placed = d.after.placed; tally = d.after.tally; hangs = λ f. d.hangs }
counts-lost-by false own w c e k n =
    let d = till-lapses own w.before w.terminal.ledger (asked_on w c) w.till w.settling (rest_on w c) n.placed n.tally k.1 in record { placed = d.after.placed; tally = d.after.tally; hangs = λ f. d.hangs }

sent-placed : (s : Settling) (o : Order) (loose : List (ℕ × Cause)) → AllPlaced loose s.settled → AllPlaced loose (sent s o).settled
sent-placed s Register loose k = k
sent-placed s (Pay a) loose k = k
sent-placed s (Reverse i) loose k = k
sent-placed s CloseDay loose k = k
sent-placed s Cancel loose k = k

accept-loose : (t : TillState) (o : Order) → (accept t o).unclear ≡ t.unclear
accept-loose t Register = refl
accept-loose t (Pay a) = refl
accept-loose t (Reverse i) = refl
accept-loose t CloseDay = refl
accept-loose t Cancel = refl

up-or-not : (down : Bool) (own : ℕ) (before now : List Row) (asked : List Word) (t : TillState) (s : Settling) (rest : List Heard) (o : Order) → refusal (facts_of t) o ≡ None → Stands down own before now asked t s rest → (down ≡ false) × (t.line_up ≡ true)
up-or-not true own before now asked t s rest o e k = absurd (offline (facts_of t) o k.line e)
up-or-not false own before now asked t s rest o e k = (refl, k.0)

counts-orders : (own : ℕ) (w : Meant) (c : Line) (o : Order) (why : Option OrderRefusal) → refuses_meant w o ≡ why → Holds own w c → Counts own w c → Counts own (orders_meant w o why) c
counts-orders own w c o (Some why) e i k = k
counts-orders own w c o None e i k =
    let free = no-refusal (facts_of w.till) w.settling.asking o e in
    let up = up-or-not c.till_lost own w.before w.terminal.ledger (asked_on w c) w.till w.settling (rest_on w c) o free.1 i.stands in
    record {
      placed = subst (λ u. AllPlaced u (sent w.settling o).settled) (sym (accept-loose w.till o)) (sent-placed w.settling o w.till.unclear k.placed);
      tally = till-sends-tallies own w.before w.terminal.ledger w.till w.settling o (online (facts_of w.till) o up.1 free.1) k.tally;
      hangs = λ f. let no : true ≡ false = sym f ∙ up.0 in absurd cc;
    }

ask-up : (down : Bool) (own : ℕ) (before now : List Row) (asked : List Word) (t : TillState) (s : Settling) (rest : List Heard) → line_refusal (facts_of t) CloseDay ≡ None → Stands down own before now asked t s rest → down ≡ false
ask-up true own before now asked t s rest e k = absurd (off-line (facts_of t) k.line e)
ask-up false own before now asked t s rest e k = refl

counts-asks : (own : ℕ) (w : Meant) (c : Line) (why : Option OrderRefusal) → ask_refusal (facts_of w.till) w.settling.asking ≡ why → Holds own w c → Counts own w c → Counts own (asks_meant w why) c
counts-asks own w c (Some why) e i k = k
counts-asks own w c None e i k =
    let free = no-ask-refusal (facts_of w.till) w.settling.asking e in
    let up = ask-up c.till_lost own w.before w.terminal.ledger (asked_on w c) w.till w.settling (rest_on w c) free.1 i.stands in
    record { placed = k.placed; tally = k.tally; hangs = λ f. let no : true ≡ false = sym f ∙ up in absurd cc }

counts-act : (own : ℕ) (w : Meant) (c : Line) (x : Act) → act_orderly (length w.from_till) (length w.from_terminal) c x ≡ true → Holds own w c → Counts own w c
    → Counts own (act_meant w x) (cable_after (length w.from_till) (length w.from_terminal) c x)
counts-act own w c (Does Connect) e i k = counts-connect own w c k
counts-act own w c (Does (Ordered o)) e i k = counts-orders own w c o (refuses_meant w o) refl i k
counts-act own w c (Does (ToTerminal n v)) e i k =
    let d = terminal-next w c n v e in
    subst (λ j. Counts own (terminal_meant w v (slice_get w.from_till j)) (record c { to_terminal = j + 1 })) (sym d.0) (counts-terminal own w c v d.1 i k)
counts-act own w c (Does (ToTill n)) e i k =
    let d = till-next w c n e in
    subst (λ j. Counts own (till_meant w (slice_get w.from_terminal j)) (record c { to_till = j + 1 })) (sym d.0) (counts-till own w c d.1 d.2 i k)
counts-act own w c (Does TillLost) e i k = counts-lost-by c.till_lost own w c refl i.stands k
counts-act own w c (Does TerminalLost) e i k = record { placed = k.placed; tally = k.tally; hangs = k.hangs }
counts-act own w c Asks e i k = counts-asks own w c (ask_refusal (facts_of w.till) w.settling.asking) refl i k

counts-means : (own : ℕ) (w : Ends) (c : Line) (x : Act) → FitAct x → Fit w → act_orderly (length w.from_till) (length w.from_terminal) c x ≡ true → Holds own (meaning w) c → Counts own (meaning w) c
    → Counts own (meaning (act w x)) (cable_after (length w.from_till) (length w.from_terminal) c x)
counts-means own w c x f k e i n =
    let m : length (map word_of w.from_till) ≡ length w.from_till = length-map w.from_till word_of in
    let l : length (map heard_as w.from_terminal) ≡ length w.from_terminal = length-map w.from_terminal heard_as in
    let orderly : act_orderly (length (map word_of w.from_till)) (length (map heard_as w.from_terminal)) c x ≡ true =
    subst (λ (a : ℕ). act_orderly a (length (map heard_as w.from_terminal)) c x ≡ true) (sym m) (subst (λ (b : ℕ). act_orderly (length w.from_till) b c x ≡ true) (sym l) e) in
    subst (λ (v : Meant). Counts own v (cable_after (length w.from_till) (length w.from_terminal) c x)) (sym (act-means w x f k))
    (subst (λ (a : ℕ). Counts own (act_meant (meaning w) x) (cable_after a (length w.from_terminal) c x)) m
    (subst (λ (b : ℕ). Counts own (act_meant (meaning w) x) (cable_after (length (map word_of w.from_till)) b c x)) l (counts-act own (meaning w) c x orderly i n)))

-- ---- all acts

reach-counts : (own : ℕ) (w : Ends) (c : Line) (acts : List Act) → FitActs acts → Fit w → Holds own (meaning w) c → Counts own (meaning w) c → orderly_from w c acts ≡ true → (end : Line) × Counts own (meaning (fold act w acts)) end
reach-counts own w c [] f k i n e = (c, n)
reach-counts own w c (x ∷ acts) f k i n e =
    let next = cable_after (length w.from_till) (length w.from_terminal) c x in
    let now = act_orderly (length w.from_till) (length w.from_terminal) c x in
    let later = orderly_from (act w x) next acts in
    let here = and-left now later e in
    reach-counts own (act w x) next acts f.1 (act-fit w x f.0 k) (act-means-so own w c x f.0 k here i).holds (counts-means own w c x f.0 k here i n) (and-right now later e)

counts-first : Counts run_settings.currency (meaning new_ends) no_line
counts-first =
    record {
      placed = tt;
      tally = Even (λ p e. absurd cc) (λ all b. refl);
      hangs = λ e. record { payment = λ a named f. absurd cc; reversal = λ receipt f. absurd cc };
    }

pub exact : Exact
exact acts f e idle all amount =
    let w : Ends = asked_world acts in
    let own : ℕ = run_settings.currency in
    let r = reach-counts own new_ends no_line acts f new-fit at-first counts-first e in
    let tally : Tally own w.ledger_before w.terminal.ledger (map row_of w.till.book) w.till.unclear w.settling.settled w.settling.pending =
    subst (λ run. RunTally run own w.ledger_before w.terminal.ledger (map row_of w.till.book) w.till.unclear w.settling.settled w.settling.pending) idle r.1.tally in
    let n = even-of own w.ledger_before w.terminal.ledger (map row_of w.till.book) w.till.unclear w.settling.settled w.settling.pending tally all amount in
    let entries = booked-entries amount w.till.book in omega (arith, n, entries)
