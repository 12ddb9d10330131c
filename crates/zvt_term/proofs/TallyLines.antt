-- The tallies as the till hears a message, loses its line, sends an order, or asks. For the proof that the ledger has exactly
-- the approvals that were counted.
use Rattle.std.proofs.Common.{Bool, List, None, Option, Some, [], ap, cond, false, inl, inr, length, map, refl, subst, sym, true, ℕ, ◌++◌, ◌∙◌, ◌∷◌, ◌≡◌, ◌⊎◌}
use Rattle.zvt_apdu.specs.Briefs.{digits}
use Rattle.zvt_till.proofs.LogStateLemmas.{state}
use Rattle.zvt_till.specs.Books.{Booked}
use Rattle.zvt_till.specs.Laws.{row_of}
use Rattle.zvt_till.specs.Refusals.{session_refusal}
use Rattle.zvt_till.specs.Sending.{Settings}
use Rattle.zvt_till.specs.Till.{TillState, accept, facts_of, meet, step}
use Rattle.zvt_till.specs.declared.entries.Entry.{Entry}
use Rattle.zvt_till.specs.declared.happenings.Happening.TheVariants.{Heard as HeardIn, Lost as LostLine}
use Rattle.zvt_till.specs.declared.messages.CurrencyFact.{CurrencyFact}
use Rattle.zvt_till.specs.declared.messages.Heard.{Heard}
use Rattle.zvt_till.specs.declared.messages.StatusFacts.{StatusFacts}
use Rattle.zvt_till.specs.declared.orders.Order.{Order}
use Rattle.zvt_till.specs.declared.orders.Order.TheVariants.{Cancel, CloseDay, Pay, Register, Reverse}
use Rattle.zvt_till.specs.declared.outcomes.Cause.{Cause}
use Rattle.zvt_till.specs.declared.outcomes.Cause.TheVariants.{Line as LineCause}
use Rattle.zvt_till.specs.declared.outcomes.Outcome.{Outcome}
use Rattle.zvt_till.specs.declared.outcomes.Outcome.TheVariants.{Unclear as UnclearOutcome}
use Rattle.zvt_till.specs.declared.statuses.Running.{Running}
use Rattle.zvt_till.specs.declared.statuses.Statuses.{Statuses}
use Rattle.zvt_term.proofs.Accounts.{EndsLast, words}
use Rattle.zvt_term.specs.Orderly.{approvals}
use Rattle.zvt_term.specs.declared.extras.Extra.TheVariants.{RepeatReceipt}
use Rattle.zvt_term.specs.declared.ledger.Row.{Row}
use Rattle.zvt_term.specs.declared.messages.Asked.TheVariants.{Authorisation, Reversal as ReversalAsked}
use Rattle.zvt_term.specs.AskedWorld.{AreAllSettled, looked}
use Rattle.zvt_settle.specs.Settling.{Settling, asks, ended, meets, sent, settles}
use Rattle.zvt_settle.specs.declared.deciding.Pending.{Pending}
use Rattle.zvt_settle.specs.declared.deciding.Settlement.{Settlement}
use Rattle.zvt_settle.specs.declared.deciding.StatusSoFar.{StatusSoFar}
use Rattle.zvt_settle.specs.declared.deciding.StatusSoFar.TheVariants.{Nothing}
use Rattle.zvt_settle.specs.declared.deciding.What.TheVariants.{Payment, Reversal}
use Rattle.zvt_term.proofs.AskStands.{Ready}
use Rattle.zvt_term.proofs.AskedMeans.{Beyond, Plain, Word}
use Rattle.zvt_term.proofs.Standing.{Answers, Asking, Denied, Down, FitsOrder, InFlight, Quiet, RunsAs, Said, Stage, StageAt, Taking, Unsaid, requests}
use Rattle.zvt_term.proofs.Tallies.{AllPlaced, Even, HangsAs, IsPayment, MayAdd, OddFresh, OrderTally, RunTally, even-of, odd-fresh}
use Rattle.zvt_term.proofs.TallyTill.{After, idle-tallies}
use Rattle.zvt_term.proofs.TallyRuns.{run-tallies, unclear-tally, reversal-tally, what-is}
use Rattle.zvt_term.proofs.TallyTerminal.{HangsAt, TallyAt, hangs-none}
use Rattle.zvt_term.proofs.LineStands.{hears-by, settling}

-- ---- a message

abbrev pub AfterAt : (own : ℕ) → (before now : List Row) → TillState → Settling → Type 0
AfterAt own before now t v = After own before now t.running (map row_of t.book) t.unclear v

hears-tallies : (own : ℕ) (before now : List Row) (requests : List Word) (k : Settings) (up g : Bool) (run : Option Running) (es : List Entry) (u : List (ℕ × Cause)) (lo : Option Outcome)
    (asking : Option Bool) (so_far : StatusSoFar) (last : Option StatusFacts) (pending : Option Pending) (done : List Settlement) (m : Heard) (q coming : List Heard)
    → let t : TillState = state k up g run es u lo in
    let s : Settling = settling asking so_far last pending done in
    AllPlaced u done → RunTally run own before now (map row_of es) u done pending → Ready own now t s → Stage own (map row_of es) u before now requests s run asking (words (m ∷ q) ++ coming)
    → AfterAt own before now (meet t (HeardIn m)) (meets t s (HeardIn m))
hears-tallies own before now requests k up g None es u lo asking so_far last pending done m q coming placed tally r stage =
    let t : TillState = state k up g None es u lo in
    let s : Settling = settling asking so_far last pending done in
    let told = hears-by own before now requests k up g None es u lo asking so_far last pending done m q coming r stage in
    idle-tallies own before now t s (meets t s (HeardIn m)) placed tally told.settles (told.pends refl)
hears-tallies own before now requests k up g (Some r) es u lo None so_far last pending done m q coming placed tally ready stage =
    run-tallies own before now requests (state k up g (Some r) es u lo) r (settling None so_far last pending done) m q coming placed stage tally
hears-tallies own before now requests k up g (Some r) es u lo (Some accepted) so_far last pending done m q coming placed tally ready stage = absurd stage

pub till-tallies : (own : ℕ) (before now : List Row) (requests : List Word) (t : TillState) (s : Settling) (m : Heard) (q coming : List Heard)
    → AllPlaced t.unclear s.settled → TallyAt own before now t s → Ready own now t s → t.line_up ≡ true → StageAt own before now requests t s (words (m ∷ q) ++ coming)
    → AfterAt own before now (step t (HeardIn m)) (settles t s (HeardIn m))
till-tallies own before now requests t s m q coming placed tally r up k =
    subst (λ b. AfterAt own before now (cond b (meet t (HeardIn m)) t) (cond b (meets t s (HeardIn m)) s)) (sym up)
    (hears-tallies own before now requests t.settings t.line_up t.registered t.running t.book t.unclear t.last_outcome s.asking s.so_far s.last s.pending s.settled m q coming placed tally r k)

-- ---- the line is lost

pub record Lapsed (own : ℕ) (before now : List Row) (asked : List Word) (u : TillState) (v : Settling) : Type 0 where
  pub after : AfterAt own before now u v
  pub hangs : HangsAt before now u v asked

-- a payment or a reversal
abbrev is_plain_request : Word → Bool
is_plain_request (Plain (Authorisation amount named)) = true
is_plain_request (Plain (ReversalAsked receipt)) = true
is_plain_request m = false

hangs-ask : (before now : List Row) (t : TillState) (x : Settling) (asked : List Word) (m : Word) → asked ≡ m ∷ [] → is_plain_request m ≡ false → HangsAt before now t x asked
hangs-ask before now t x asked m e n =
    record {
      payment = λ a named f. let same : m ≡ Plain (Authorisation (Some a) named) = only m (Plain (Authorisation (Some a) named)) (sym e ∙ f) in let no : true ≡ false = sym (ap is_plain_request same) ∙ n in absurd cc;
      reversal = λ receipt f. let same : m ≡ Plain (ReversalAsked receipt) = only m (Plain (ReversalAsked receipt)) (sym e ∙ f) in let no : true ≡ false = sym (ap is_plain_request same) ∙ n in absurd cc;
    }
  where
    only : (x y : Word) → x ∷ [] ≡ y ∷ [] → x ≡ y
    only x y q = cc

quiet-hangs : (own : ℕ) (rows : List Booked) (loose : List (ℕ × Cause)) (before now : List Row) (asked : List Word) (s : Settling) (o : Order) (rest : List Heard) (t : TillState) (v : Settling)
    → ((m : Word) → FitsOrder own rows o m → is_plain_request m ≡ false) → Quiet own rows loose before now asked s o rest → HangsAt before now t v asked
quiet-hangs own rows loose before now asked s o rest t v plain k = by_words k.words
  where
    by_words : ((m : Word) × (asked ≡ m ∷ []) × FitsOrder own rows o m × (rest ≡ [])) ⊎ ((asked ≡ []) × EndsLast rest) → HangsAt before now t v asked
    by_words (inl w) = hangs-ask before now t v asked w.0 w.1 (plain w.0 w.2)
    by_words (inr w) = hangs-none before now t v asked w.0

asking-hangs : (own : ℕ) (rows : List Booked) (loose : List (ℕ × Cause)) (before now : List Row) (asked : List Word) (s : Settling) (rest : List Heard) (t : TillState) (v : Settling)
    → Asking own rows loose before now asked s rest → HangsAt before now t v asked
asking-hangs own rows loose before now asked s rest t v k = by_words k.words
  where
    by_words : ((asked ≡ Beyond RepeatReceipt ∷ []) × (rest ≡ []) × (s.so_far ≡ Nothing)) ⊎ ((asked ≡ []) × Answers now s.so_far rest) → HangsAt before now t v asked
    by_words (inl w) = hangs-ask before now t v asked (Beyond RepeatReceipt) w.0 refl
    by_words (inr w) = hangs-none before now t v asked w.0

-- a payment whose message was on the way
pay-hangs : (own : ℕ) (before now : List Row) (asked : List Word) (book : List Entry) (loose : List (ℕ × Cause)) (s : Settling) (a : ℕ) (st : Statuses) (rest : List Heard)
    → AllPlaced loose s.settled → MayAdd own before now (map row_of book) loose s.settled a (AreAllSettled loose s.settled) → Taking own (map row_of book) before now asked (Pay a) st s.so_far rest
    → HangsAs before now (map row_of book) (loose ++ (a, LineCause) ∷ []) s.settled (ended s (Pay a) (UnclearOutcome LineCause) (length loose)).pending asked
pay-hangs own before now asked book loose s a st rest placed may (InFlight m e f none same quiet empty) =
    record {
      payment = λ b named g.
          let amount : a ≡ b = amounts a b f.0 named (sym (e ∙ ap (λ y. y ∷ []) f.1) ∙ g) in
          subst (λ n. OddFresh before now (map row_of book) (loose ++ (a, LineCause) ∷ []) s.settled (ended s (Pay a) (UnclearOutcome LineCause) (length loose)).pending n) amount (fresh may same);
      reversal = λ receipt g. let no : Plain (Authorisation (Some a) f.0) ∷ [] ≡ Plain (ReversalAsked receipt) ∷ [] = sym (e ∙ ap (λ y. y ∷ []) f.1) ∙ g in absurd cc;
    }
  where
    amounts : (x y : ℕ) (n k : CurrencyFact) → Plain (Authorisation (Some x) n) ∷ [] ≡ Plain (Authorisation (Some y) k) ∷ [] → x ≡ y
    amounts x y n k q = cc

    fresh : MayAdd own before now (map row_of book) loose s.settled a (AreAllSettled loose s.settled) → now ≡ before
        → OddFresh before now (map row_of book) (loose ++ (a, LineCause) ∷ []) s.settled (ended s (Pay a) (UnclearOutcome LineCause) (length loose)).pending a
    fresh x e2 = odd-fresh own before now (map row_of book) loose s.settled (ended s (Pay a) (UnclearOutcome LineCause) (length loose)).pending a LineCause placed (λ p q. what-is s.last (Payment (length loose) a) p q) e2 x
pay-hangs own before now asked book loose s a st rest placed may (Denied e same n d) =
    record { payment = λ b named g. let no : [] ≡ Plain (Authorisation (Some b) named) ∷ [] = sym e ∙ g in absurd cc; reversal = λ receipt g. let no : [] ≡ Plain (ReversalAsked receipt) ∷ [] = sym e ∙ g in absurd cc }
pay-hangs own before now asked book loose s a st rest placed may (Unsaid row e grew f quiet empty d) =
    record { payment = λ b named g. let no : [] ≡ Plain (Authorisation (Some b) named) ∷ [] = sym e ∙ g in absurd cc; reversal = λ receipt g. let no : [] ≡ Plain (ReversalAsked receipt) ∷ [] = sym e ∙ g in absurd cc }
pay-hangs own before now asked book loose s a st rest placed may (Said row e grew f claims one d) =
    record { payment = λ b named g. let no : [] ≡ Plain (Authorisation (Some b) named) ∷ [] = sym e ∙ g in absurd cc; reversal = λ receipt g. let no : [] ≡ Plain (ReversalAsked receipt) ∷ [] = sym e ∙ g in absurd cc }

-- a reversal whose message was on the way
reverse-hangs : (own : ℕ) (before now : List Row) (asked : List Word) (t u : TillState) (s v : Settling) (i : ℕ) (st : Statuses) (rest : List Heard)
    → ((p : Pending) → v.pending ≡ Some p → IsPayment p.what → ⊥) → Taking own (map row_of t.book) before now asked (Reverse i) st s.so_far rest → HangsAt before now u v asked
reverse-hangs own before now asked t u s v i st rest n (InFlight m e f none same quiet empty) =
    record {
      payment = λ a named g. let no : Plain (ReversalAsked (Some (digits 2 f.0.trace))) ∷ [] ≡ Plain (Authorisation (Some a) named) ∷ [] = sym (e ∙ ap (λ y. y ∷ []) f.2) ∙ g in absurd cc;
      reversal = λ receipt g. n;
    }
reverse-hangs own before now asked t u s v i st rest n (Denied e same x d) = hangs-none before now u v asked e
reverse-hangs own before now asked t u s v i st rest n (Unsaid row e grew f quiet empty d) = hangs-none before now u v asked e
reverse-hangs own before now asked t u s v i st rest n (Said row e grew f claims one d) = hangs-none before now u v asked e

loses-tallies : (own : ℕ) (before now : List Row) (asked : List Word) (k : Settings) (up g : Bool) (run : Option Running) (es : List Entry) (u : List (ℕ × Cause)) (lo : Option Outcome)
    (asking : Option Bool) (so_far : StatusSoFar) (last : Option StatusFacts) (pending : Option Pending) (done : List Settlement) (rest : List Heard)
    → let t : TillState = state k up g run es u lo in
    let s : Settling = settling asking so_far last pending done in
    AllPlaced u done → RunTally run own before now (map row_of es) u done pending → Stage own (map row_of es) u before now asked s run asking rest
    → Lapsed own before now asked (step t LostLine) (settles t s LostLine)
loses-tallies own before now asked k up g None es u lo None so_far last pending done rest placed tally stage =
    record { after = record { placed = placed; tally = tally }; hangs = hangs-none before now (step (state k up g None es u lo) LostLine) (settling None so_far last pending done) asked stage.no_request }
loses-tallies own before now asked k up g None es u lo (Some accepted) so_far last pending done rest placed tally stage =
    record {
      after = record { placed = placed; tally = tally };
      hangs =
          asking-hangs own (map row_of es) u before now asked (settling (Some accepted) so_far last pending done) rest (step (state k up g None es u lo) LostLine)
          (settles (state k up g None es u lo) (settling (Some accepted) so_far last pending done) LostLine) stage;
    }
loses-tallies own before now asked k up g (Some r) es u lo None so_far last pending done rest placed tally stage = by_order r.order stage tally
  where
    by_order : (o : Order) → RunsAs own (map row_of es) u before now asked (settling None so_far last pending done) o r.statuses rest → OrderTally o own before now (map row_of es) u done pending
        → Lapsed own before now asked (step (state k up g (Some (record { order = o; positive = r.positive; statuses = r.statuses })) es u lo) LostLine)
        (settles (state k up g (Some (record { order = o; positive = r.positive; statuses = r.statuses })) es u lo) (settling None so_far last pending done) LostLine)
    by_order Register q c =
        record {
          after = record { placed = placed; tally = c };
          hangs =
              quiet-hangs own (map row_of es) u before now asked (settling None so_far last pending done) Register rest (step (state k up g (Some (record { order = Register; positive = r.positive; statuses = r.statuses })) es u lo) LostLine)
              (settling None so_far last pending done) (λ m f. ap is_plain_request f) q;
        }
    by_order (Pay a) q c =
        record {
          after = unclear-tally own before now es u (settling None so_far last pending done) a LineCause placed c;
          hangs = pay-hangs own before now asked es u (settling None so_far last pending done) a r.statuses rest placed c q.taking;
        }
    by_order (Reverse i) q c =
        let d = reversal-tally own before now es u (settling None so_far last pending done) i (UnclearOutcome LineCause) placed q.pending c in
        record {
          after = d;
          hangs =
              reverse-hangs own before now asked (state k up g None es u lo) (step (state k up g (Some (record { order = Reverse i; positive = r.positive; statuses = r.statuses })) es u lo) LostLine) (settling None so_far last pending done)
              (ended (settling None so_far last pending done) (Reverse i) (UnclearOutcome LineCause) (length u)) i r.statuses rest (λ p e f. subst IsPayment (what-is last (Reversal i) p e) f) q.taking;
        }
    by_order CloseDay q c =
        record {
          after = record { placed = placed; tally = c };
          hangs =
              quiet-hangs own (map row_of es) u before now asked (settling None so_far last pending done) CloseDay rest (step (state k up g (Some (record { order = CloseDay; positive = r.positive; statuses = r.statuses })) es u lo) LostLine)
              (settling None so_far last pending done) (λ m f. ap is_plain_request f) q;
        }
    by_order Cancel q c = absurd q
loses-tallies own before now asked k up g (Some r) es u lo (Some accepted) so_far last pending done rest placed tally stage = absurd stage

pub till-lapses : (own : ℕ) (before now : List Row) (asked : List Word) (t : TillState) (s : Settling) (rest : List Heard) → AllPlaced t.unclear s.settled → TallyAt own before now t s → StageAt own before now asked t s rest
    → Lapsed own before now asked (step t LostLine) (settles t s LostLine)
till-lapses own before now asked t s rest placed tally k =
    loses-tallies own before now asked t.settings t.line_up t.registered t.running t.book t.unclear t.last_outcome s.asking s.so_far s.last s.pending s.settled rest placed tally k

-- a line that was lost before
down-tallies : (own : ℕ) (before now : List Row) (asked : List Word) (k : Settings) (up g : Bool) (run : Option Running) (es : List Entry) (u : List (ℕ × Cause)) (lo : Option Outcome)
    (asking : Option Bool) (so_far : StatusSoFar) (last : Option StatusFacts) (pending : Option Pending) (done : List Settlement)
    → let t : TillState = state k up g run es u lo in
    let s : Settling = settling asking so_far last pending done in
    run ≡ None → asking ≡ None → AllPlaced u done → RunTally run own before now (map row_of es) u done pending → HangsAt before now t s asked → Lapsed own before now asked (step t LostLine) (settles t s LostLine)
down-tallies own before now asked k up g None es u lo None so_far last pending done e f placed tally hangs =
    record { after = record { placed = placed; tally = tally }; hangs = record { payment = hangs.payment; reversal = hangs.reversal } }
down-tallies own before now asked k up g None es u lo (Some accepted) so_far last pending done e f placed tally hangs = absurd cc
down-tallies own before now asked k up g (Some r) es u lo asking so_far last pending done e f placed tally hangs = absurd cc

pub down-lapses : (own : ℕ) (before now : List Row) (asked : List Word) (t : TillState) (s : Settling) → Down own before now asked t s → AllPlaced t.unclear s.settled → TallyAt own before now t s → HangsAt before now t s asked
    → Lapsed own before now asked (step t LostLine) (settles t s LostLine)
down-lapses own before now asked t s k placed tally hangs =
    down-tallies own before now asked t.settings t.line_up t.registered t.running t.book t.unclear t.last_outcome s.asking s.so_far s.last s.pending s.settled k.running k.asking placed tally hangs

-- ---- an order is sent

sends-tallies : (own : ℕ) (before now : List Row) (k : Settings) (up g : Bool) (run : Option Running) (es : List Entry) (u : List (ℕ × Cause)) (lo : Option Outcome) (s : Settling) (o : Order)
    → session_refusal (facts_of (state k up g run es u lo)) o ≡ None → RunTally run own before now (map row_of es) u s.settled s.pending
    → TallyAt own (looked before now o) now (accept (state k up g run es u lo) o) (sent s o)
sends-tallies own before now k up g run es u lo s Cancel e c = c
sends-tallies own before now k up g None es u lo s Register e c = c
sends-tallies own before now k up g None es u lo s (Pay a) e c = inl (refl, even-of own before now (map row_of es) u s.settled s.pending c)
sends-tallies own before now k up g None es u lo s (Reverse i) e c = even-of own before now (map row_of es) u s.settled s.pending c
sends-tallies own before now k up g None es u lo s CloseDay e c = Even (λ p f. absurd cc) (even-of own before now (map row_of es) u s.settled s.pending c)
sends-tallies own before now k up g (Some r) es u lo s Register e c = absurd cc
sends-tallies own before now k up true (Some r) es u lo s (Pay a) e c = absurd cc
sends-tallies own before now k up false (Some r) es u lo s (Pay a) e c = absurd cc
sends-tallies own before now k up true (Some r) es u lo s (Reverse i) e c = absurd cc
sends-tallies own before now k up false (Some r) es u lo s (Reverse i) e c = absurd cc
sends-tallies own before now k up true (Some r) es u lo s CloseDay e c = absurd cc
sends-tallies own before now k up false (Some r) es u lo s CloseDay e c = absurd cc

pub till-sends-tallies : (own : ℕ) (before now : List Row) (t : TillState) (s : Settling) (o : Order) → session_refusal (facts_of t) o ≡ None → TallyAt own before now t s
    → TallyAt own (looked before now o) now (accept t o) (sent s o)
till-sends-tallies own before now t s o e c = sends-tallies own before now t.settings t.line_up t.registered t.running t.book t.unclear t.last_outcome s o e c
