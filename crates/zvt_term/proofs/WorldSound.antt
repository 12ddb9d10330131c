-- Over lines that keep order, the ledger agrees with every settlement.
use Rattle.std.proofs.Common.{◌≡◌, ℕ, ◌+◌, ◌<◌, inl, inr, true, not, ◌&&◌, ◌==◌, nat_lt, List, [], ◌∷◌, ◌++◌, length, Option, map, fold, slice_get, IsTrue, refl, sym, ap, subst, ◌∙◌, length-append, eqb-true, arith}
use Rattle.std.proofs.lemmas.Bool.{ltb-true}
use Rattle.std.proofs.lemmas.List.{length-map}
use Rattle.std.proofs.lemmas.List.Sums.{fold-append}
use Rattle.zvt_till.specs.declared.outcomes.Cause.{Cause}
use Rattle.zvt_till.specs.Events.{run_settings}
use Rattle.zvt_till.specs.Hearing.{heard_as}
use Rattle.zvt_till.specs.Till.{facts_of}
use Rattle.zvt_term.specs.declared.turns.Verdict.{Verdict}
use Rattle.zvt_term.specs.declared.world.Move.TheVariants.{Connect, Order as Ordered, ToTerminal, ToTill, TillLost, TerminalLost}
use Rattle.zvt_term.specs.Orderly.{Line, no_line, is_orderly, line_after}
use Rattle.zvt_term.proofs.Accounting.{and-left, and-right, not-true}
use Rattle.zvt_settle.specs.declared.deciding.Settlement.{Settlement}
use Rattle.zvt_settle.specs.declared.deciding.Settlement.TheVariants.{Paid, NotPaid, Reversed, NotReversed}
use Rattle.zvt_term.specs.AskedWorld.{Act, Does, Asks, Ends, new_ends, act, asked_world, act_orderly, cable_after, orderly_from, are_orderly, FitAct, FitActs, GrewByPayment, IsSo, Sound}
use Rattle.zvt_settle.specs.Settling.{ask_refusal}
use Rattle.zvt_term.proofs.ActStands.{Acts, connects, terminal-reached, till-reached, till-lost, terminal-lost, orders-hold, asks-hold}
use Rattle.zvt_term.proofs.AnswerDecides.{SoIn}
use Rattle.zvt_term.proofs.AskedMeans.{word_of, Meant, meaning, refuses_meant, terminal_meant, till_meant, move_meant, act_meant}
use Rattle.zvt_term.proofs.AskedFits.{Fit, act-means, act-fit, new-fit}
use Rattle.zvt_term.proofs.AskStands.{Settles}
use Rattle.zvt_term.proofs.Standing.{Holds, Settled}

-- ---- each act

terminal-delivered : (own : ℕ) (w : Meant) (c : Line) (k : ℕ) (v : Verdict) → is_orderly (length w.from_till) (length w.from_terminal) c (ToTerminal k v) ≡ true → Holds own w c
    → Acts own w (move_meant w (ToTerminal k v)) (line_after (length w.from_till) (length w.from_terminal) c (ToTerminal k v))
terminal-delivered own w c k v e i =
    let named = k == c.to_terminal in
    let sent = nat_lt k (length w.from_till) in
    let first = and-left (named && sent) (not c.terminal_lost) e in
    let same : k ≡ c.to_terminal = eqb-true k c.to_terminal (and-left named sent first) in
    let within : k < length w.from_till = ltb-true k (length w.from_till) (and-right named sent first) in
    let up = not-true c.terminal_lost (and-right (named && sent) (not c.terminal_lost) e) in
    subst (λ n. Acts own w (terminal_meant w v (slice_get w.from_till n)) (record c { to_terminal = n + 1 })) (sym same)
    (terminal-reached own w c v (subst (λ n. n < length w.from_till) same within) up i)

till-delivered : (own : ℕ) (w : Meant) (c : Line) (k : ℕ) → is_orderly (length w.from_till) (length w.from_terminal) c (ToTill k) ≡ true → Holds own w c
    → Acts own w (move_meant w (ToTill k)) (line_after (length w.from_till) (length w.from_terminal) c (ToTill k))
till-delivered own w c k e i =
    let named = k == c.to_till in
    let sent = nat_lt k (length w.from_terminal) in
    let first = and-left (named && sent) (not c.till_lost) e in
    let same : k ≡ c.to_till = eqb-true k c.to_till (and-left named sent first) in
    let within : k < length w.from_terminal = ltb-true k (length w.from_terminal) (and-right named sent first) in
    let up = not-true c.till_lost (and-right (named && sent) (not c.till_lost) e) in
    subst (λ n. Acts own w (till_meant w (slice_get w.from_terminal n)) (record c { to_till = n + 1 })) (sym same)
    (till-reached own w c (subst (λ n. n < length w.from_terminal) same within) up i)

act-holds : (own : ℕ) (w : Meant) (c : Line) (x : Act) → act_orderly (length w.from_till) (length w.from_terminal) c x ≡ true → Holds own w c
    → Acts own w (act_meant w x) (cable_after (length w.from_till) (length w.from_terminal) c x)
act-holds own w c (Does Connect) e i = connects own w c e i
act-holds own w c (Does (Ordered o)) e i = orders-hold own w c o (refuses_meant w o) refl i
act-holds own w c (Does (ToTerminal k v)) e i = terminal-delivered own w c k v e i
act-holds own w c (Does (ToTill k)) e i = till-delivered own w c k e i
act-holds own w c (Does TillLost) e i = till-lost own w c i
act-holds own w c (Does TerminalLost) e i = terminal-lost own w c i
act-holds own w c Asks e i = asks-hold own w c (ask_refusal (facts_of w.till) w.settling.asking) refl i

-- by the messages themselves
pub act-means-so : (own : ℕ) (w : Ends) (c : Line) (x : Act) → FitAct x → Fit w → act_orderly (length w.from_till) (length w.from_terminal) c x ≡ true → Holds own (meaning w) c
    → Acts own (meaning w) (meaning (act w x)) (cable_after (length w.from_till) (length w.from_terminal) c x)
act-means-so own w c x f k e i =
    let m : length (map word_of w.from_till) ≡ length w.from_till = length-map w.from_till word_of in
    let n : length (map heard_as w.from_terminal) ≡ length w.from_terminal = length-map w.from_terminal heard_as in
    let orderly : act_orderly (length (map word_of w.from_till)) (length (map heard_as w.from_terminal)) c x ≡ true =
    subst (λ (a : ℕ). act_orderly a (length (map heard_as w.from_terminal)) c x ≡ true) (sym m) (subst (λ (b : ℕ). act_orderly (length w.from_till) b c x ≡ true) (sym n) e) in
    subst (λ (v : Meant). Acts own (meaning w) v (cable_after (length w.from_till) (length w.from_terminal) c x)) (sym (act-means w x f k))
    (subst (λ (a : ℕ). Acts own (meaning w) (act_meant (meaning w) x) (cable_after a (length w.from_terminal) c x)) m
    (subst (λ (b : ℕ). Acts own (meaning w) (act_meant (meaning w) x) (cable_after (length (map word_of w.from_till)) b c x)) n (act-holds own (meaning w) c x orderly i)))

-- ---- all acts

-- both ends after some acts, and the line
record Reached (own : ℕ) (w : Ends) (more : List Act) : Type 0 where
  line : Line
  fit : Fit w
  holds : Holds own (meaning w) line
  orderly : orderly_from w line more ≡ true

reach-all : (own : ℕ) (w : Ends) (c : Line) (acts more : List Act) → FitActs (acts ++ more) → Fit w → Holds own (meaning w) c → orderly_from w c (acts ++ more) ≡ true → Reached own (fold act w acts) more
reach-all own w c [] more f k i e = record { line = c; fit = k; holds = i; orderly = e }
reach-all own w c (x ∷ acts) more f k i e =
    let next = cable_after (length w.from_till) (length w.from_terminal) c x in
    let now = act_orderly (length w.from_till) (length w.from_terminal) c x in
    let later = orderly_from (act w x) next (acts ++ more) in
    reach-all own (act w x) next acts more f.1 (act-fit w x f.0 k) (act-means-so own w c x f.0 k (and-left now later e) i).holds (and-right now later e)

pub at-first : Holds run_settings.currency (meaning new_ends) no_line
at-first =
    record {
      till_sent = omega arith;
      terminal_sent = omega arith;
      silent = λ q. refl;
      currency = refl;
      keeps = λ e. absurd cc;
      sent = tt;
      sound = (omega arith, omega arith, tt, tt);
      fresh = record { books = λ i b e. absurd cc; paid = λ t e. absurd cc };
      stands = record { line = refl; running = refl; asking = refl; lost = Settled (record { last = λ f e. absurd cc; waits = λ p e. absurd cc }) (inl refl) };
    }

pub fit-last : (acts : List Act) (x : Act) → FitActs (acts ++ x ∷ []) → FitAct x
fit-last [] x f = f.0
fit-last (y ∷ acts) x f = fit-last acts x f.1

-- what the last of some acts did
last-act : (acts : List Act) (x : Act) → FitActs (acts ++ x ∷ []) → IsTrue (are_orderly (acts ++ x ∷ [])) → (c : Line) × Acts run_settings.currency (meaning (asked_world acts)) (meaning (act (asked_world acts) x)) c
last-act acts x f e =
    let w : Ends = asked_world acts in
    let r = reach-all run_settings.currency new_ends no_line acts (x ∷ []) f new-fit at-first e in
    let now = act_orderly (length w.from_till) (length w.from_terminal) r.line x in
    let next = cable_after (length w.from_till) (length w.from_terminal) r.line x in
    (next, act-means-so run_settings.currency w r.line x (fit-last acts x f) r.fit (and-left now (orderly_from (act w x) next []) r.orderly) r.holds)

-- ---- settlements

so-is : (w : Ends) (s : Settlement) → SoIn w.till w.ledger_before w.terminal.ledger s → IsSo w s
so-is w (Paid place trace receipt) h = by_row (slice_get w.till.unclear place) refl
  where
    by_row : (o : Option (ℕ × Cause)) → slice_get w.till.unclear place ≡ o → GrewByPayment w place trace (slice_get w.till.unclear place)
    by_row o e = h
so-is w (NotPaid place) h = h
so-is w (Reversed entry) h = h
so-is w (NotReversed entry) h = h

last-of : (xs : List Settlement) (x y : Settlement) → xs ++ x ∷ [] ≡ xs ++ y ∷ [] → x ≡ y
last-of [] x y e = cc
last-of (z ∷ xs) x y e = last-of xs x y cc

one-more : (xs : List Settlement) (x : Settlement) → xs ≡ xs ++ x ∷ [] → ⊥
one-more xs x e = let n : length xs ≡ length (xs ++ x ∷ []) = ap length e in absurd (omega (arith, n, length-append xs (x ∷ [])))

settled-so : (w v : Ends) (s : Settlement) → Settles v.till v.ledger_before v.terminal.ledger w.settling.settled v.settling.settled w.settling.pending → v.settling.settled ≡ w.settling.settled ++ s ∷ [] → IsSo v s
settled-so w v s (inl same) e = absurd (one-more w.settling.settled s (sym same ∙ e))
settled-so w v s (inr k) e =
    let one : k.0 ≡ s = last-of w.settling.settled k.0 s (sym k.1 ∙ e) in so-is v s (subst (SoIn v.till v.ledger_before v.terminal.ledger) one k.2)

pub sound : Sound
sound acts x s f e settled =
    let w : Ends = asked_world acts in
    let after : asked_world (acts ++ x ∷ []) ≡ act w x = fold-append act new_ends acts (x ∷ []) in
    subst (λ (v : Ends). IsSo v s) (sym after)
    (settled-so w (act w x) s (last-act acts x f e).1.settles (ap (λ (v : Ends). v.settling.settled) (sym after) ∙ settled))
