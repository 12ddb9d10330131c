-- What stays true as the till hears a message, loses its line, sends an order, or asks. For the proof that settlements agree
-- with the ledger.
use Rattle.std.proofs.Common.{◌≡◌, ℕ, ◌⊎◌, inl, inr, Bool, true, false, cond, List, [], ◌∷◌, ◌++◌, length, Option, Some, None, map, refl, sym, ap, subst}
use Rattle.zvt_till.specs.declared.entries.Entry.{Entry}
use Rattle.zvt_till.specs.declared.happenings.Happening.{Happening}
use Rattle.zvt_till.specs.declared.happenings.Happening.TheVariants.{Heard as HeardIn, Lost as LostLine}
use Rattle.zvt_till.specs.declared.messages.Heard.{Heard}
use Rattle.zvt_till.specs.declared.messages.Heard.TheVariants.{Positive}
use Rattle.zvt_till.specs.declared.messages.StatusFacts.{StatusFacts}
use Rattle.zvt_till.specs.declared.orders.Order.{Order}
use Rattle.zvt_till.specs.declared.orders.Order.TheVariants.{Register, Pay, Reverse, CloseDay, Cancel}
use Rattle.zvt_till.specs.declared.outcomes.Cause.{Cause}
use Rattle.zvt_till.specs.declared.outcomes.Cause.TheVariants.{Line as LineCause}
use Rattle.zvt_till.specs.declared.outcomes.Outcome.{Outcome}
use Rattle.zvt_till.specs.declared.outcomes.Outcome.TheVariants.{Unclear as UnclearOutcome}
use Rattle.zvt_till.specs.declared.statuses.Running.{Running}
use Rattle.zvt_till.specs.declared.statuses.Statuses.{Statuses}
use Rattle.zvt_till.specs.Books.{Booked}
use Rattle.zvt_till.specs.Laws.{row_of}
use Rattle.zvt_till.specs.Outcomes.{outcome_by}
use Rattle.zvt_till.specs.Segments.{ends}
use Rattle.zvt_till.specs.Sending.{Settings}
use Rattle.zvt_till.specs.Till.{TillState, book_after, unclear_after, meet, step}
use Rattle.zvt_till.proofs.LogStateLemmas.{state}
use Rattle.zvt_term.specs.declared.extras.Extra.TheVariants.{RepeatReceipt}
use Rattle.zvt_term.specs.declared.ledger.Row.{Row}
use Rattle.zvt_term.proofs.Accounts.{words, EndsLast}
use Rattle.zvt_term.proofs.Matching.{slice_get-last}
use Rattle.zvt_settle.specs.declared.deciding.Pending.{Pending}
use Rattle.zvt_settle.specs.declared.deciding.Settlement.{Settlement}
use Rattle.zvt_settle.specs.declared.deciding.StatusSoFar.{StatusSoFar}
use Rattle.zvt_settle.specs.declared.deciding.StatusSoFar.TheVariants.{Nothing}
use Rattle.zvt_settle.specs.declared.deciding.What.{What}
use Rattle.zvt_settle.specs.declared.deciding.What.TheVariants.{Payment, Reversal}
use Rattle.zvt_term.specs.Ledgers.{AreOfRows}
use Rattle.zvt_settle.specs.Settling.{Settling, paid_traces, ended, asks, meets, settles}
use Rattle.zvt_term.proofs.AskedMeans.{Word, Beyond}
use Rattle.zvt_term.proofs.AskStands.{Told, Ready, asking-hears}
use Rattle.zvt_term.proofs.HearingStands.{run-hears, running_settling}
use Rattle.zvt_settle.proofs.OrderEnds.{with_status, ended-settled}
use Rattle.zvt_term.proofs.Standing.{IsLast, order_of, IsWhat, Known, KnownBy, Fresh, AllIn, FitsOrder, requests, Taking, InFlight, Denied, Unsaid, Said, Paying, Quiet, RunsAs, Answers, Asking, Resting, Stage, StageAt, Harmless, Lost, Settled, Hangs, Down}
use Rattle.zvt_term.proofs.TillStands.{Pays, doubted, unclear-rows, pending-of}

-- ---- a message

rest-hears : (own : ℕ) (before now : List Row) (requests : List Word) (t : TillState) (s : Settling) (m : Heard) (q coming : List Heard)
    → Ready own now t s → t.running ≡ None → s.asking ≡ None → Resting own (map row_of t.book) t.unclear before now requests s (words (m ∷ q) ++ coming)
    → Told own before now requests (words q ++ coming) t t s (with_status s (HeardIn m))
rest-hears own before now requests t s Positive q coming r idle silent k =
    record {
      met = record {
        stage =
            subst (λ run. Stage own (map row_of t.book) t.unclear before now requests s run s.asking (words q ++ coming)) (sym idle)
            (subst (λ a. Stage own (map row_of t.book) t.unclear before now requests s None a (words q ++ coming)) (sym silent) (record { known = k.known; no_request = k.no_request; no_word = k.no_word }));
        books = r.all;
      };
      paid = r.paid;
      settles = inl refl;
      pends = λ r. inl (refl, refl);
    }
rest-hears own before now requests t s m q coming r idle silent k = let gone = k.no_word in absurd cc

running-settled : (t : TillState) (r : Running) (s : Settling) (h : Happening) (b : Bool) → (running_settling t r s h b).settled ≡ s.settled
running-settled t r s h true = ended-settled (with_status s h) r.order (outcome_by t.book r.order r.statuses h) (length t.unclear)
running-settled t r s h false = refl

abbrev pub settling : Option Bool → StatusSoFar → Option StatusFacts → Option Pending → List Settlement → Settling
settling asking so_far last pending done = record { asking = asking; so_far = so_far; last = last; pending = pending; settled = done }

pub hears-by : (own : ℕ) (before now : List Row) (requests : List Word) (k : Settings) (up g : Bool) (run : Option Running) (es : List Entry) (u : List (ℕ × Cause)) (lo : Option Outcome)
    (asking : Option Bool) (so_far : StatusSoFar) (last : Option StatusFacts) (pending : Option Pending) (done : List Settlement) (m : Heard) (q coming : List Heard)
    → let t : TillState = state k up g run es u lo in
    let s : Settling = settling asking so_far last pending done in
    Ready own now t s → Stage own (map row_of es) u before now requests s run asking (words (m ∷ q) ++ coming)
    → Told own before now requests (words q ++ coming) t (meet t (HeardIn m)) s (meets t s (HeardIn m))
hears-by own before now requests k up g None es u lo None so_far last pending done m q coming r stage =
    rest-hears own before now requests (state k up g None es u lo) (settling None so_far last pending done) m q coming r refl refl stage
hears-by own before now requests k up g None es u lo (Some accepted) so_far last pending done m q coming r stage =
    asking-hears own before now requests (state k up g None es u lo) (settling (Some accepted) so_far last pending done) accepted m q coming r refl stage
hears-by own before now requests k up g (Some r) es u lo None so_far last pending done m q coming ready stage =
    let t : TillState = state k up g (Some r) es u lo in
    let s : Settling = settling None so_far last pending done in
    let same = running-settled t r s (HeardIn m) (ends r.positive (HeardIn m)) in
    record {
      met = run-hears own before now requests t r s m q coming refl ready.all stage;
      paid = subst (λ xs. AreOfRows (paid_traces xs) now) (sym same) ready.paid;
      settles = inl same;
      pends = λ e. absurd cc;
    }
hears-by own before now requests k up g (Some r) es u lo (Some accepted) so_far last pending done m q coming ready stage = absurd stage

pub till-hears : (own : ℕ) (before now : List Row) (requests : List Word) (t : TillState) (s : Settling) (m : Heard) (q coming : List Heard)
    → Ready own now t s → t.line_up ≡ true → StageAt own before now requests t s (words (m ∷ q) ++ coming)
    → Told own before now requests (words q ++ coming) t (step t (HeardIn m)) s (settles t s (HeardIn m))
till-hears own before now requests t s m q coming r up k =
    subst (λ b. Told own before now requests (words q ++ coming) t (cond b (meet t (HeardIn m)) t) s (cond b (meets t s (HeardIn m)) s)) (sym up)
    (hears-by own before now requests t.settings t.line_up t.registered t.running t.book t.unclear t.last_outcome s.asking s.so_far s.last s.pending s.settled m q coming r k)

-- ---- the line is lost

pub record Loses (own : ℕ) (before now : List Row) (requests : List Word) (u : TillState) (s v : Settling) : Type 0 where
  pub down : Down own before now requests u v
  pub all : AllIn own now (map row_of u.book)
  pub settled : v.settled ≡ s.settled

paying-lost : (own : ℕ) (before now : List Row) (requests : List Word) (book : List Entry) (loose : List (ℕ × Cause)) (s : Settling) (o : Order) (st : Statuses) (rest : List Heard) (w : What)
    → Pays o → order_of w ≡ o → ((place : ℕ) (p : Pending) → (ended s o (UnclearOutcome LineCause) (length loose)).pending ≡ Some p → IsWhat (unclear_after loose o (UnclearOutcome LineCause)) p.what × (p.what ≡ w))
    → (ended s o (UnclearOutcome LineCause) (length loose)).last ≡ None
    → ((p : Pending) → (ended s o (UnclearOutcome LineCause) (length loose)).pending ≡ Some p → (f : StatusFacts) × (s.last ≡ Some f) × (p.before ≡ f))
    → Paying own (map row_of book) before now requests s o st rest
    → Lost own (map row_of (book_after book o (UnclearOutcome LineCause))) (unclear_after loose o (UnclearOutcome LineCause)) before now requests (ended s o (UnclearOutcome LineCause) (length loose))
paying-lost own before now requests book loose s o st rest w pays is what last from k = by_taking k.taking
  where
    rows : map row_of (book_after book o (UnclearOutcome LineCause)) ≡ map row_of book
    rows = unclear-rows book o LineCause

    by_taking : Taking own (map row_of book) before now requests o st s.so_far rest
        → Lost own (map row_of (book_after book o (UnclearOutcome LineCause))) (unclear_after loose o (UnclearOutcome LineCause)) before now requests (ended s o (UnclearOutcome LineCause) (length loose))
    by_taking (InFlight m e f none same nothing empty) =
        Hangs m e
        (record {
          what = w;
          fits = subst (λ y. FitsOrder own y (order_of w) m) (sym rows) (subst (λ x. FitsOrder own (map row_of book) x m) (sym is) f);
          same = same;
          last = last;
          waits = λ p q.
              let a = what 0 p q in
              let b = from p q in (
                subst (λ x. IsLast before x) (sym b.2) (k.last b.0 b.1),
                a.0,
                a.1,
                subst (λ y. Fresh own before y (paid_traces (ended s o (UnclearOutcome LineCause) (length loose)).settled)) (sym rows)
                    (subst (λ y. Fresh own before (map row_of book) (paid_traces y)) (sym (ended-settled s o (UnclearOutcome LineCause) (length loose))) k.fresh),
              );
        })
    by_taking (Denied e same n d) = Settled (doubted own o before now book loose s LineCause pays k.last (inl same) k.fresh) (inl e)
    by_taking (Unsaid row e grew f nothing empty d) = Settled (doubted own o before now book loose s LineCause pays k.last (inr (row, grew, f)) k.fresh) (inl e)
    by_taking (Said row e grew f claims one d) = Settled (doubted own o before now book loose s LineCause pays k.last (inr (row, grew, f)) k.fresh) (inl e)

pay-lost : (own : ℕ) (before now : List Row) (requests : List Word) (book : List Entry) (loose : List (ℕ × Cause)) (s : Settling) (a : ℕ) (st : Statuses) (rest : List Heard)
    → Paying own (map row_of book) before now requests s (Pay a) st rest
    → Lost own (map row_of book) (loose ++ (a, LineCause) ∷ []) before now requests (ended s (Pay a) (UnclearOutcome LineCause) (length loose))
pay-lost own before now requests book loose s a st rest k =
    paying-lost own before now requests book loose s (Pay a) st rest (Payment (length loose) a) tt refl
    (λ place p e.
    let w = pending-of s.last (Payment (length loose) a) p e in
    subst (λ (x : Pending). IsWhat (loose ++ (a, LineCause) ∷ []) x.what × (x.what ≡ Payment (length loose) a)) (sym w.2) ((LineCause, slice_get-last loose (a, LineCause)), refl))
    refl
    (λ p e. let w = pending-of s.last (Payment (length loose) a) p e in (w.0, w.1, ap (λ (x : Pending). x.before) w.2))
    k

reverse-lost : (own : ℕ) (before now : List Row) (requests : List Word) (book : List Entry) (loose : List (ℕ × Cause)) (s : Settling) (i : ℕ) (st : Statuses) (rest : List Heard)
    → Paying own (map row_of book) before now requests s (Reverse i) st rest
    → Lost own (map row_of (book_after book (Reverse i) (UnclearOutcome LineCause))) loose before now requests (ended s (Reverse i) (UnclearOutcome LineCause) (length loose))
reverse-lost own before now requests book loose s i st rest k =
    paying-lost own before now requests book loose s (Reverse i) st rest (Reversal i) tt refl
    (λ place p e.
    let w = pending-of s.last (Reversal i) p e in
    subst (λ (x : Pending). IsWhat loose x.what × (x.what ≡ Reversal i)) (sym w.2) (tt, refl))
    refl
    (λ p e. let w = pending-of s.last (Reversal i) p e in (w.0, w.1, ap (λ (x : Pending). x.before) w.2))
    k

quiet-lost : (own : ℕ) (rows : List Booked) (loose : List (ℕ × Cause)) (before now : List Row) (requests : List Word) (s : Settling) (o : Order) (rest : List Heard)
    → ((m : Word) → FitsOrder own rows o m → Harmless own rows m) → Quiet own rows loose before now requests s o rest → Lost own rows loose before now requests s
quiet-lost own rows loose before now requests s o rest harmless k = by_words k.words
  where
    by_words : ((m : Word) × (requests ≡ m ∷ []) × FitsOrder own rows o m × (rest ≡ [])) ⊎ ((requests ≡ []) × EndsLast rest) → Lost own rows loose before now requests s
    by_words (inl w) = Settled k.known (inr (w.0, w.1, harmless w.0 w.2))
    by_words (inr w) = Settled k.known (inl w.0)

asking-lost : (own : ℕ) (rows : List Booked) (loose : List (ℕ × Cause)) (before now : List Row) (requests : List Word) (s v : Settling) (rest : List Heard)
    → v.last ≡ s.last → v.pending ≡ s.pending → v.settled ≡ s.settled → Asking own rows loose before now requests s rest → Lost own rows loose before now requests v
asking-lost own rows loose before now requests s v rest last pending done k = by_words k.words
  where
    known : KnownBy own rows loose before now v
    known =
        subst (λ x. Known own rows loose (paid_traces x) before now v.last v.pending) (sym done)
        (subst (λ x. Known own rows loose (paid_traces s.settled) before now x v.pending) (sym last) (subst (λ x. Known own rows loose (paid_traces s.settled) before now s.last x) (sym pending) k.known))

    by_words : ((requests ≡ Beyond RepeatReceipt ∷ []) × (rest ≡ []) × (s.so_far ≡ Nothing)) ⊎ ((requests ≡ []) × Answers now s.so_far rest) → Lost own rows loose before now requests v
    by_words (inl w) = Settled known (inr (Beyond RepeatReceipt, w.0, inr (inr refl)))
    by_words (inr w) = Settled known (inl w.0)

loses-by : (own : ℕ) (before now : List Row) (requests : List Word) (k : Settings) (up g : Bool) (run : Option Running) (es : List Entry) (u : List (ℕ × Cause)) (lo : Option Outcome)
    (asking : Option Bool) (so_far : StatusSoFar) (last : Option StatusFacts) (pending : Option Pending) (done : List Settlement) (rest : List Heard)
    → let t : TillState = state k up g run es u lo in
    let s : Settling = settling asking so_far last pending done in
    AllIn own now (map row_of es) → Stage own (map row_of es) u before now requests s run asking rest
    → Loses own before now requests (step t LostLine) s (settles t s LostLine)
loses-by own before now requests k up g None es u lo None so_far last pending done rest all stage =
    record { down = record { line = refl; running = refl; asking = refl; lost = Settled stage.known (inl stage.no_request) }; all = all; settled = refl }
loses-by own before now requests k up g None es u lo (Some accepted) so_far last pending done rest all stage =
    let s : Settling = settling (Some accepted) so_far last pending done in
    record {
      down = record { line = refl; running = refl; asking = refl; lost = asking-lost own (map row_of es) u before now requests s (record s { asking = None }) rest refl refl refl stage };
      all = all;
      settled = refl;
    }
loses-by own before now requests k up g (Some r) es u lo None so_far last pending done rest all stage = by_order r.order stage
  where
    by_order : (o : Order) → RunsAs own (map row_of es) u before now requests (settling None so_far last pending done) o r.statuses rest
        → Loses own before now requests (step (state k up g (Some (record { order = o; positive = r.positive; statuses = r.statuses })) es u lo) LostLine) (settling None so_far last pending done)
        (settles (state k up g (Some (record { order = o; positive = r.positive; statuses = r.statuses })) es u lo) (settling None so_far last pending done) LostLine)
    by_order Register q =
        record { down = record { line = refl; running = refl; asking = refl; lost = quiet-lost own (map row_of es) u before now requests (settling None so_far last pending done) Register rest (λ m f. inl f) q }; all = all; settled = refl }
    by_order (Pay a) q =
        record { down = record { line = refl; running = refl; asking = refl; lost = pay-lost own before now requests es u (settling None so_far last pending done) a r.statuses rest q }; all = all; settled = refl }
    by_order (Reverse i) q =
        record {
          down = record { line = refl; running = refl; asking = refl; lost = reverse-lost own before now requests es u (settling None so_far last pending done) i r.statuses rest q };
          all = subst (AllIn own now) (sym (unclear-rows es (Reverse i) LineCause)) all;
          settled = refl;
        }
    by_order CloseDay q =
        record { down = record { line = refl; running = refl; asking = refl; lost = quiet-lost own (map row_of es) u before now requests (settling None so_far last pending done) CloseDay rest (λ m f. inr (inl f)) q }; all = all; settled = refl }
    by_order Cancel q = absurd q
loses-by own before now requests k up g (Some r) es u lo (Some accepted) so_far last pending done rest all stage = absurd stage

pub till-loses : (own : ℕ) (before now : List Row) (requests : List Word) (t : TillState) (s : Settling) (rest : List Heard)
    → AllIn own now (map row_of t.book) → StageAt own before now requests t s rest → Loses own before now requests (step t LostLine) s (settles t s LostLine)
till-loses own before now requests t s rest all k =
    loses-by own before now requests t.settings t.line_up t.registered t.running t.book t.unclear t.last_outcome s.asking s.so_far s.last s.pending s.settled rest all k
