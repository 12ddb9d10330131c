-- The tallies as the terminal hears a message. For the proof that the ledger has exactly the approvals that were counted.
use Rattle.std.proofs.Common.{◌≡◌, ℕ, ◌⊎◌, inl, inr, Bool, true, false, List, [], ◌∷◌, Option, Some, None, map, refl, sym, ap, subst, ◌∙◌}
use Rattle.zvt_apdu.specs.Briefs.{digits}
use Rattle.zvt_till.specs.declared.messages.Heard.{Heard}
use Rattle.zvt_till.specs.declared.orders.Order.{Order}
use Rattle.zvt_till.specs.declared.orders.Order.TheVariants.{Register, Pay, Reverse, CloseDay, Cancel}
use Rattle.zvt_till.specs.declared.outcomes.Cause.{Cause}
use Rattle.zvt_till.specs.declared.statuses.Running.{Running}
use Rattle.zvt_till.specs.declared.statuses.Statuses.{Statuses}
use Rattle.zvt_till.specs.Books.{Booked}
use Rattle.zvt_till.specs.Laws.{row_of}
use Rattle.zvt_till.specs.Till.{TillState}
use Rattle.zvt_term.specs.declared.extras.Extra.TheVariants.{RepeatReceipt}
use Rattle.zvt_term.specs.declared.ledger.Row.{Row}
use Rattle.zvt_term.specs.declared.messages.Asked.TheVariants.{Authorisation, Reversal as ReversalAsked, AbortOrder, Answer}
use Rattle.zvt_term.specs.declared.turns.Verdict.{Verdict}
use Rattle.zvt_term.specs.Terminal.{TerminalState}
use Rattle.zvt_term.proofs.Accounts.{EndsLast}
use Rattle.zvt_settle.specs.declared.deciding.Pending.{Pending}
use Rattle.zvt_settle.specs.declared.deciding.Settlement.{Settlement}
use Rattle.zvt_settle.specs.declared.deciding.StatusSoFar.{StatusSoFar}
use Rattle.zvt_settle.specs.declared.deciding.StatusSoFar.TheVariants.{Nothing}
use Rattle.zvt_settle.specs.declared.deciding.What.{What}
use Rattle.zvt_settle.specs.declared.deciding.What.TheVariants.{Payment, Reversal}
use Rattle.zvt_term.specs.AskedWorld.{AreAllSettled}
use Rattle.zvt_settle.specs.Settling.{Settling}
use Rattle.zvt_term.proofs.AskedMeans.{Word, Plain, Beyond, after_on, said_on}
use Rattle.zvt_term.proofs.Standing.{GrewFor, order_of, FitsOrder, requests, Taking, InFlight, Denied, Unsaid, Said, Quiet, RunsAs, Asking, Answers, Stage, Harmless, Lost, Settled, Hangs, Stands}
use Rattle.zvt_term.proofs.Tallies.{AllBut, EvenIf, MayAdd, Tally, Even, Odd, even-of, OrderTally, RunTally, HangsAs, not-both, grown, reversal-grown, tally-as, Equal, nothing}
use Rattle.zvt_term.proofs.TerminalStands.{Able, abort-unheeded, answer-unheeded, harmless-ledger, what-turned, grew-of}

-- a message that writes no row
order-as : (own : ℕ) (before now later : List Row) (rows : List Booked) (loose : List (ℕ × Cause)) (settled : List Settlement) (pending : Option Pending) (o : Order) → later ≡ now
    → OrderTally o own before now rows loose settled pending → OrderTally o own before later rows loose settled pending
order-as own before now later rows loose settled pending o e k = subst (λ l. OrderTally o own before l rows loose settled pending) (sym e) k

-- what is tallied of the till
abbrev pub TallyAt : (own : ℕ) → (before now : List Row) → TillState → Settling → Type 0
TallyAt own before now t x = RunTally t.running own before now (map row_of t.book) t.unclear x.settled x.pending

-- ---- while the line of the till is up

quiet-ledger : (own : ℕ) (rows : List Booked) (loose : List (ℕ × Cause)) (before : List Row) (s : TerminalState) (m : Word) (v : Verdict) (q : List Word) (x : Settling) (o : Order) (rest : List Heard)
    → Able own rows s → ((n : Word) → FitsOrder own rows o n → Harmless own rows n) → Quiet own rows loose before s.ledger (m ∷ q) x o rest → (after_on s m v).ledger ≡ s.ledger
quiet-ledger own rows loose before s m v q x o rest able harmless k = by_words k.words
  where
    by_words : ((n : Word) × (m ∷ q ≡ n ∷ []) × FitsOrder own rows o n × (rest ≡ [])) ⊎ ((m ∷ q ≡ []) × EndsLast rest) → (after_on s m v).ledger ≡ s.ledger
    by_words (inl w) = let word : m ≡ w.0 = let e = w.1 in cc in harmless-ledger own rows s m v able.keeps (harmless m (subst (FitsOrder own rows o) (sym word) w.2))
    by_words (inr w) = let gone = w.0 in absurd cc

asking-ledger : (own : ℕ) (rows : List Booked) (loose : List (ℕ × Cause)) (before : List Row) (s : TerminalState) (m : Word) (v : Verdict) (q : List Word) (x : Settling) (rest : List Heard)
    → Able own rows s → Asking own rows loose before s.ledger (m ∷ q) x rest → (after_on s m v).ledger ≡ s.ledger
asking-ledger own rows loose before s m v q x rest able k = by_words k.words
  where
    by_words : ((m ∷ q ≡ Beyond RepeatReceipt ∷ []) × (rest ≡ []) × (x.so_far ≡ Nothing)) ⊎ ((m ∷ q ≡ []) × Answers s.ledger x.so_far rest) → (after_on s m v).ledger ≡ s.ledger
    by_words (inl w) = let word : m ≡ Beyond RepeatReceipt = let e = w.0 in cc in harmless-ledger own rows s m v able.keeps (inr (inr word))
    by_words (inr w) = let gone = w.0 in absurd cc

-- the payment or reversal that runs was not processed yet
in-flight : (own : ℕ) (rows : List Booked) (before : List Row) (s : TerminalState) (m : Word) (q : List Word) (o : Order) (st : Statuses) (so_far : StatusSoFar) (rest : List Heard)
    → Taking own rows before s.ledger (m ∷ q) o st so_far rest → (s.ledger ≡ before) × FitsOrder own rows o m
in-flight own rows before s m q o st so_far rest (InFlight n e f none same nothing empty) = let word : m ≡ n = cc in (same, subst (FitsOrder own rows o) (sym word) f)
in-flight own rows before s m q o st so_far rest (Denied e same n d) = absurd cc
in-flight own rows before s m q o st so_far rest (Unsaid row e grew f nothing empty d) = absurd cc
in-flight own rows before s m q o st so_far rest (Said row e grew f claims one d) = absurd cc

grows-for : (own : ℕ) (rows : List Booked) (before : List Row) (s : TerminalState) (m : Word) (v : Verdict) (w : What) → Able own rows s → s.ledger ≡ before → FitsOrder own rows (order_of w) m
    → GrewFor own rows before (after_on s m v).ledger (order_of w)
grows-for own rows before s m v w able same f = grew-of own rows (order_of w) before s (after_on s m v) (said_on s m v) same (what-turned own rows s m v w able f)

may-grow : (own : ℕ) (before now later : List Row) (rows : List Booked) (loose : List (ℕ × Cause)) (settled : List Settlement) (a : ℕ) (Given : Type 0)
    → now ≡ before → MayAdd own before now rows loose settled a Given → GrewFor own rows before later (Pay a) → MayAdd own before later rows loose settled a Given
may-grow own before now later rows loose settled a Given same (inl k) g = grown own before now later rows loose settled a Given same k.1 g
may-grow own before now later rows loose settled a Given same (inr k) g = absurd (not-both before now k.0 same k.1)

even-grow : (own : ℕ) (before now later : List Row) (rows : List Booked) (loose : List (ℕ × Cause)) (settled : List Settlement) (i : ℕ)
    → now ≡ before → EvenIf now rows loose settled → GrewFor own rows before later (Reverse i) → EvenIf later rows loose settled
even-grow own before now later rows loose settled i same k g = λ all. reversal-grown own before later rows loose settled i (subst (λ l. Equal l rows loose settled nothing) same (k all)) g

order-hears : (own : ℕ) (before : List Row) (s : TerminalState) (m : Word) (v : Verdict) (q : List Word) (t : TillState) (x : Settling) (o : Order) (st : Statuses) (rest : List Heard)
    → Able own (map row_of t.book) s → RunsAs own (map row_of t.book) t.unclear before s.ledger (m ∷ q) x o st rest
    → OrderTally o own before s.ledger (map row_of t.book) t.unclear x.settled x.pending → OrderTally o own before (after_on s m v).ledger (map row_of t.book) t.unclear x.settled x.pending
order-hears own before s m v q t x Register st rest able k tally =
    order-as own before s.ledger (after_on s m v).ledger (map row_of t.book) t.unclear x.settled x.pending Register (quiet-ledger own (map row_of t.book) t.unclear before s m v q x Register rest able (λ n f. inl f) k) tally
order-hears own before s m v q t x (Pay a) st rest able k tally =
    let f = in-flight own (map row_of t.book) before s m q (Pay a) st x.so_far rest k.taking in
    may-grow own before s.ledger (after_on s m v).ledger (map row_of t.book) t.unclear x.settled a (AreAllSettled t.unclear x.settled) f.0 tally (grows-for own (map row_of t.book) before s m v (Payment 0 a) able f.0 f.1)
order-hears own before s m v q t x (Reverse i) st rest able k tally =
    let f = in-flight own (map row_of t.book) before s m q (Reverse i) st x.so_far rest k.taking in
    even-grow own before s.ledger (after_on s m v).ledger (map row_of t.book) t.unclear x.settled i f.0 tally (grows-for own (map row_of t.book) before s m v (Reversal i) able f.0 f.1)
order-hears own before s m v q t x CloseDay st rest able k tally =
    order-as own before s.ledger (after_on s m v).ledger (map row_of t.book) t.unclear x.settled x.pending CloseDay (quiet-ledger own (map row_of t.book) t.unclear before s m v q x CloseDay rest able (λ n f. inr (inl f)) k) tally
order-hears own before s m v q t x Cancel st rest able k tally = absurd k

stage-hears : (own : ℕ) (before : List Row) (s : TerminalState) (m : Word) (v : Verdict) (q : List Word) (t : TillState) (x : Settling) (run : Option Running) (asking : Option Bool) (rest : List Heard)
    → Able own (map row_of t.book) s → Stage own (map row_of t.book) t.unclear before s.ledger (m ∷ q) x run asking rest
    → RunTally run own before s.ledger (map row_of t.book) t.unclear x.settled x.pending → RunTally run own before (after_on s m v).ledger (map row_of t.book) t.unclear x.settled x.pending
stage-hears own before s m v q t x None None rest able k tally = let gone = k.no_request in absurd cc
stage-hears own before s m v q t x None (Some accepted) rest able k tally =
    tally-as own before s.ledger (after_on s m v).ledger (map row_of t.book) t.unclear x.settled x.pending (asking-ledger own (map row_of t.book) t.unclear before s m v q x rest able k) tally
stage-hears own before s m v q t x (Some r) None rest able k tally = order-hears own before s m v q t x r.order r.statuses rest able k tally
stage-hears own before s m v q t x (Some r) (Some accepted) rest able k tally = absurd k

-- ---- after the till lost its line

abbrev pub HangsAt : (before now : List Row) → TillState → Settling → List Word → Type 0
HangsAt before now t x asked = HangsAs before now (map row_of t.book) t.unclear x.settled x.pending asked

pub hangs-none : (before now : List Row) (t : TillState) (x : Settling) (asked : List Word) → asked ≡ [] → HangsAt before now t x asked
hangs-none before now t x asked e =
    record {
      payment = λ a named f. let no : [] ≡ Plain (Authorisation (Some a) named) ∷ [] = sym e ∙ f in absurd cc;
      reversal = λ receipt f. let no : [] ≡ Plain (ReversalAsked receipt) ∷ [] = sym e ∙ f in absurd cc;
    }

lost-hears : (own : ℕ) (before : List Row) (s : TerminalState) (m : Word) (v : Verdict) (q : List Word) (t : TillState) (x : Settling) → Able own (map row_of t.book) s
    → Lost own (map row_of t.book) t.unclear before s.ledger (m ∷ q) x → HangsAt before s.ledger t x (m ∷ q) → Tally own before s.ledger (map row_of t.book) t.unclear x.settled x.pending
    → (q ≡ []) × Tally own before (after_on s m v).ledger (map row_of t.book) t.unclear x.settled x.pending
lost-hears own before s m v q t x able (Settled k (inl e)) h tally = absurd cc
lost-hears own before s m v q t x able (Settled k (inr (n, e, harmless))) h tally =
    let word : m ≡ n = cc in
    let last : q ≡ [] = cc in (
      last,
      tally-as own before s.ledger (after_on s m v).ledger (map row_of t.book) t.unclear x.settled x.pending
          (harmless-ledger own (map row_of t.book) s m v able.keeps (subst (Harmless own (map row_of t.book)) (sym word) harmless)) tally,
    )
lost-hears own before s m v q t x able (Hangs n e k) h tally = (last, by_what k.what k.fits)
  where
    last : q ≡ []
    last = cc

    word : m ≡ n
    word = cc

    by_what : (w : What) → FitsOrder own (map row_of t.book) (order_of w) n → Tally own before (after_on s m v).ledger (map row_of t.book) t.unclear x.settled x.pending
    by_what (Payment place a) f =
        let only : m ∷ q ≡ Plain (Authorisation (Some a) f.0) ∷ [] = e ∙ ap (λ y. y ∷ []) f.1 in
        let odd = h.payment a f.0 only in
        Odd odd.place a odd.cause odd.at odd.none odd.what
        (grown own before s.ledger (after_on s m v).ledger (map row_of t.book) t.unclear x.settled a (AllBut odd.place t.unclear x.settled) odd.same odd.equal
        (grows-for own (map row_of t.book) before s m v (Payment 0 a) able odd.same (subst (FitsOrder own (map row_of t.book) (Pay a)) (sym word) f)))
    by_what (Reversal i) f =
        let only : m ∷ q ≡ Plain (ReversalAsked (Some (digits 2 f.0.trace))) ∷ [] = e ∙ ap (λ y. y ∷ []) f.2 in
        Even (h.reversal (Some (digits 2 f.0.trace)) only)
        (even-grow own before s.ledger (after_on s m v).ledger (map row_of t.book) t.unclear x.settled i k.same
        (even-of own before s.ledger (map row_of t.book) t.unclear x.settled x.pending tally)
        (grows-for own (map row_of t.book) before s m v (Reversal i) able k.same (subst (FitsOrder own (map row_of t.book) (Reverse i)) (sym word) f)))

-- ---- both

pub record Tallied (down : Bool) (own : ℕ) (before now : List Row) (asked : List Word) (t : TillState) (x : Settling) : Type 0 where
  pub tally : TallyAt own before now t x
  pub hangs : down ≡ true → HangsAt before now t x asked

request-tallies : (down : Bool) (own : ℕ) (before : List Row) (s : TerminalState) (m : Word) (v : Verdict) (q : List Word) (t : TillState) (x : Settling) (rest : List Heard)
    → Able own (map row_of t.book) s → Stands down own before s.ledger (m ∷ q) t x rest → Tallied down own before s.ledger (m ∷ q) t x → Tallied down own before (after_on s m v).ledger q t x
request-tallies true own before s m v q t x rest able k c =
    let idle : Tally own before s.ledger (map row_of t.book) t.unclear x.settled x.pending =
    subst (λ run. RunTally run own before s.ledger (map row_of t.book) t.unclear x.settled x.pending) k.running c.tally in
    let w = lost-hears own before s m v q t x able k.lost (c.hangs refl) idle in
    record {
      tally = subst (λ run. RunTally run own before (after_on s m v).ledger (map row_of t.book) t.unclear x.settled x.pending) (sym k.running) w.1;
      hangs = λ e. hangs-none before (after_on s m v).ledger t x q w.0;
    }
request-tallies false own before s m v q t x rest able k c =
    record { tally = stage-hears own before s m v q t x t.running x.asking rest able k.1 c.tally; hangs = λ e. absurd cc }

unheeded-tallies : (down : Bool) (own : ℕ) (before now later : List Row) (q : List Word) (t : TillState) (x : Settling) → later ≡ now → Tallied down own before now q t x → Tallied down own before later q t x
unheeded-tallies down own before now later q t x e k = subst (λ l. Tallied down own before l q t x) (sym e) k

pub terminal-tallies : (down : Bool) (own : ℕ) (before : List Row) (s : TerminalState) (m : Word) (v : Verdict) (q : List Word) (t : TillState) (x : Settling) (rest : List Heard)
    → Able own (map row_of t.book) s → Stands down own before s.ledger (requests (m ∷ q)) t x rest → Tallied down own before s.ledger (requests (m ∷ q)) t x → Tallied down own before (after_on s m v).ledger (requests q) t x
terminal-tallies down own before s (Plain AbortOrder) v q t x rest able k c = unheeded-tallies down own before s.ledger (after_on s (Plain AbortOrder) v).ledger (requests q) t x (abort-unheeded s v).ledger c
terminal-tallies down own before s (Plain Answer) v q t x rest able k c = unheeded-tallies down own before s.ledger (after_on s (Plain Answer) v).ledger (requests q) t x (answer-unheeded s v).ledger c
terminal-tallies down own before s m v q t x rest able k c = request-tallies down own before s m v (requests q) t x rest able k c
