-- What stays true as the till sends an order or asks. For the proof that settlements agree with the ledger.
use Rattle.std.proofs.Common.{◌≡◌, ℕ, inl, Bool, true, false, List, [], ◌∷◌, ◌++◌, Option, Some, None, map, option_map, slice_get, refl, sym, ap, subst, ◌∙◌, append-nil}
use Rattle.std.proofs.lemmas.Option.{slice_get-map}
use Rattle.zvt_apdu.specs.Briefs.{digits}
use Rattle.zvt_apdu.specs.declared.brief.Brief.TheVariants.{Reverse as ReverseBrief}
use Rattle.zvt_till.specs.declared.entries.Entry.{Entry}
use Rattle.zvt_till.specs.declared.happenings.Happening.TheVariants.{Lost as LostLine}
use Rattle.zvt_till.specs.declared.messages.CurrencyFact.TheVariants.{Once as OneCurrency}
use Rattle.zvt_till.specs.declared.messages.Heard.{Heard}
use Rattle.zvt_till.specs.declared.messages.StatusFacts.{StatusFacts}
use Rattle.zvt_till.specs.declared.orders.Order.{Order}
use Rattle.zvt_till.specs.declared.orders.Order.TheVariants.{Register, Pay, Reverse, CloseDay, Cancel}
use Rattle.zvt_till.specs.declared.outcomes.Cause.{Cause}
use Rattle.zvt_till.specs.declared.outcomes.Outcome.{Outcome}
use Rattle.zvt_till.specs.declared.statuses.Running.{Running}
use Rattle.zvt_till.specs.declared.statuses.Statuses.TheVariants.{Nothing as NoStatuses}
use Rattle.zvt_till.specs.Laws.{row_of}
use Rattle.zvt_till.specs.Refusals.{refusal, line_refusal, session_refusal, asked_refusal, row_refusal}
use Rattle.zvt_till.specs.Sending.{Settings, message_of, receipt_at, outgoing}
use Rattle.zvt_till.specs.Till.{TillState, accept, step, facts_of}
use Rattle.zvt_till.proofs.LogStateLemmas.{state}
use Rattle.zvt_term.specs.declared.extras.Extra.TheVariants.{RepeatReceipt}
use Rattle.zvt_term.specs.declared.ledger.Row.{Row}
use Rattle.zvt_term.specs.declared.messages.Asked.TheVariants.{Registration, Authorisation, Reversal as ReversalAsked, EndOfDay}
use Rattle.zvt_term.proofs.Accounting.{online, or-else-parts}
use Rattle.zvt_settle.specs.declared.deciding.Pending.{Pending}
use Rattle.zvt_settle.specs.declared.deciding.Settlement.{Settlement}
use Rattle.zvt_settle.specs.declared.deciding.StatusSoFar.{StatusSoFar}
use Rattle.zvt_term.specs.AskedWorld.{looked}
use Rattle.zvt_settle.specs.Settling.{Settling, paid_traces, sent, asks, settles}
use Rattle.zvt_term.proofs.AskedMeans.{Word, Plain, Beyond, words_out}
use Rattle.zvt_term.proofs.Standing.{Fresh, AllIn, FitsOrder, requests, InFlight, Resting, Stage, StageAt, Lost, Down}

abbrev Sends : (own : ℕ) → (before now : List Row) → List Word → Settings → List Entry → List (ℕ × Cause) → Settling → Order → Option Running → List Heard → Type 0
Sends own before now asked k es u s o run rest =
    Stage own (map row_of es) u (looked before now o) now (asked ++ requests (words_out (message_of k es o))) (sent s o) run (sent s o).asking rest

sent-idle : (own : ℕ) (before now : List Row) (asked : List Word) (k : Settings) (es : List Entry) (u : List (ℕ × Cause)) (s : Settling) (rest : List Heard) (o : Order) (run : Option Running) → (sent s o).asking ≡ None
    → Stage own (map row_of es) u (looked before now o) now (asked ++ requests (words_out (message_of k es o))) (sent s o) run None rest → Sends own before now asked k es u s o run rest
sent-idle own before now asked k es u s rest o run idle stage =
    subst (λ a. Stage own (map row_of es) u (looked before now o) now (asked ++ requests (words_out (message_of k es o))) (sent s o) run a rest) (sym idle) stage

-- an order that is its own only message
only-word : (asked : List Word) (m : Word) → asked ≡ [] → asked ++ m ∷ [] ≡ m ∷ []
only-word asked m e = ap (λ x. x ++ m ∷ []) e

-- the message of a reversal names the receipt number of its entry
record Named (own : ℕ) (k : Settings) (es : List Entry) (i : ℕ) : Type 0 where
  word : Word
  fits : FitsOrder own (map row_of es) (Reverse i) word
  is : requests (words_out (message_of k es (Reverse i))) ≡ word ∷ []

named : (own : ℕ) (now : List Row) (k : Settings) (es : List Entry) (i : ℕ) → AllIn own now (map row_of es) → row_refusal (slice_get es i) ≡ None → Named own k es i
named own now k es i all e = by_entry (slice_get es i) refl e
  where
    by_entry : (x : Option Entry) → slice_get es i ≡ x → row_refusal x ≡ None → Named own k es i
    by_entry None is q = absurd cc
    by_entry (Some x) is q =
        let found : slice_get (map row_of es) i ≡ Some (row_of x) = slice_get-map row_of es i ∙ ap (option_map row_of) is in
        let receipt : x.receipt ≡ Some (digits 2 x.trace) = (all i (row_of x) found).2 in
        record {
          word = Plain (ReversalAsked (Some (digits 2 x.trace)));
          fits = (row_of x, found, refl);
          is =
              ap (λ o. requests (words_out (option_map (λ r. outgoing (ReverseBrief k.password r)) (receipt_at o)))) is
              ∙ ap (λ r. requests (words_out (option_map (λ y. outgoing (ReverseBrief k.password y)) r))) receipt;
        }

-- ---- an order that is sent at rest

sends-at-rest : (own : ℕ) (before now : List Row) (asked : List Word) (k : Settings) (es : List Entry) (u : List (ℕ × Cause)) (s : Settling) (rest : List Heard) (o : Order)
    → k.currency ≡ own → s.asking ≡ None → Fresh own now (map row_of es) (paid_traces s.settled) → (o ≡ Cancel → ⊥) → ((i : ℕ) → o ≡ Reverse i → row_refusal (slice_get es i) ≡ None)
    → Resting own (map row_of es) u before now asked s rest
    → Sends own before now asked k es u s o (Some (record { order = o; positive = false; statuses = NoStatuses })) rest
sends-at-rest own before now asked k es u s rest Register currency idle fresh other row r =
    sent-idle own before now asked k es u s rest Register (Some (record { order = Register; positive = false; statuses = NoStatuses })) idle
    (record { known = r.known; words = inl (Plain (Registration (Some k.currency)), only-word asked (Plain (Registration (Some k.currency))) r.no_request, ap (λ c. Plain (Registration (Some c))) currency, r.no_word) })
sends-at-rest own before now asked k es u s rest (Pay a) currency idle fresh other row r =
    let m : Word = Plain (Authorisation (Some a) (OneCurrency k.currency)) in
    sent-idle own before now asked k es u s rest (Pay a) (Some (record { order = Pay a; positive = false; statuses = NoStatuses })) idle
    (record { last = r.known.last; pending = refl; fresh = fresh; taking = InFlight m (only-word asked m r.no_request) (OneCurrency k.currency, refl) r.no_word refl refl refl })
sends-at-rest own before now asked k es u s rest (Reverse i) currency idle fresh other row r =
    let n = named own now k es i fresh.books (row i refl) in
    sent-idle own before now asked k es u s rest (Reverse i) (Some (record { order = Reverse i; positive = false; statuses = NoStatuses })) idle
    (record { last = r.known.last; pending = refl; fresh = fresh; taking = InFlight n.word (ap (λ ms. asked ++ ms) n.is ∙ only-word asked n.word r.no_request) n.fits r.no_word refl refl refl })
sends-at-rest own before now asked k es u s rest CloseDay currency idle fresh other row r =
    sent-idle own before now asked k es u s rest CloseDay (Some (record { order = CloseDay; positive = false; statuses = NoStatuses })) idle
    (record { known = record { last = λ f e. absurd cc; waits = λ p e. absurd cc }; words = inl (Plain EndOfDay, only-word asked (Plain EndOfDay) r.no_request, refl, r.no_word) })
sends-at-rest own before now asked k es u s rest Cancel currency idle fresh other row r = absurd (other refl)

-- ---- any order

abbrev SendsAt : (own : ℕ) → (before now : List Row) → List Word → TillState → Settling → Order → List Heard → Type 0
SendsAt own before now asked t s o rest = StageAt own (looked before now o) now (asked ++ requests (words_out (message_of t.settings t.book o))) (accept t o) (sent s o) rest

sends-by : (own : ℕ) (before now : List Row) (asked : List Word) (k : Settings) (up g : Bool) (run : Option Running) (es : List Entry) (u : List (ℕ × Cause)) (lo : Option Outcome) (s : Settling) (o : Order) (rest : List Heard)
    → k.currency ≡ own → s.asking ≡ None → Fresh own now (map row_of es) (paid_traces s.settled)
    → session_refusal (facts_of (state k up g run es u lo)) o ≡ None → asked_refusal (facts_of (state k up g run es u lo)) o ≡ None
    → Stage own (map row_of es) u before now asked s run s.asking rest → SendsAt own before now asked (state k up g run es u lo) s o rest
sends-by own before now asked k up g run es u lo s Cancel rest currency idle fresh e q stage =
    subst (λ x. Stage own (map row_of es) u before now x s run s.asking rest) (sym (append-nil asked)) stage
sends-by own before now asked k up g None es u lo s Register rest currency idle fresh e q stage =
    sends-at-rest own before now asked k es u s rest Register currency idle fresh (λ c. cc) (λ i c. absurd cc) (subst (λ a. Stage own (map row_of es) u before now asked s None a rest) idle stage)
sends-by own before now asked k up g None es u lo s (Pay a) rest currency idle fresh e q stage =
    sends-at-rest own before now asked k es u s rest (Pay a) currency idle fresh (λ c. cc) (λ i c. absurd cc) (subst (λ a. Stage own (map row_of es) u before now asked s None a rest) idle stage)
sends-by own before now asked k up g None es u lo s (Reverse n) rest currency idle fresh e q stage =
    sends-at-rest own before now asked k es u s rest (Reverse n) currency idle fresh (λ c. cc) (λ i c. let same : n ≡ i = cc in subst (λ j. row_refusal (slice_get es j) ≡ None) same q)
    (subst (λ a. Stage own (map row_of es) u before now asked s None a rest) idle stage)
sends-by own before now asked k up g None es u lo s CloseDay rest currency idle fresh e q stage =
    sends-at-rest own before now asked k es u s rest CloseDay currency idle fresh (λ c. cc) (λ i c. absurd cc) (subst (λ a. Stage own (map row_of es) u before now asked s None a rest) idle stage)
sends-by own before now asked k up g (Some r) es u lo s Register rest currency idle fresh e q stage = absurd cc
sends-by own before now asked k up true (Some r) es u lo s (Pay a) rest currency idle fresh e q stage = absurd cc
sends-by own before now asked k up false (Some r) es u lo s (Pay a) rest currency idle fresh e q stage = absurd cc
sends-by own before now asked k up true (Some r) es u lo s (Reverse n) rest currency idle fresh e q stage = absurd cc
sends-by own before now asked k up false (Some r) es u lo s (Reverse n) rest currency idle fresh e q stage = absurd cc
sends-by own before now asked k up true (Some r) es u lo s CloseDay rest currency idle fresh e q stage = absurd cc
sends-by own before now asked k up false (Some r) es u lo s CloseDay rest currency idle fresh e q stage = absurd cc

pub till-sends : (own : ℕ) (before now : List Row) (asked : List Word) (t : TillState) (s : Settling) (o : Order) (rest : List Heard)
    → t.settings.currency ≡ own → t.line_up ≡ true → s.asking ≡ None → Fresh own now (map row_of t.book) (paid_traces s.settled) → refusal (facts_of t) o ≡ None
    → StageAt own before now asked t s rest → SendsAt own before now asked t s o rest
till-sends own before now asked t s o rest currency up idle fresh e stage =
    sends-by own before now asked t.settings t.line_up t.registered t.running t.book t.unclear t.last_outcome s o rest currency idle fresh (online (facts_of t) o up e)
    (or-else-parts (line_refusal (facts_of t) o) (asked_refusal (facts_of t) o) e).1 stage

pub sent-settled : (s : Settling) (o : Order) → (sent s o).settled ≡ s.settled
sent-settled s Register = refl
sent-settled s (Pay a) = refl
sent-settled s (Reverse i) = refl
sent-settled s CloseDay = refl
sent-settled s Cancel = refl

-- ---- an ask

asks-by : (own : ℕ) (before now : List Row) (asked : List Word) (k : Settings) (up g : Bool) (run : Option Running) (es : List Entry) (u : List (ℕ × Cause)) (lo : Option Outcome) (s : Settling) (rest : List Heard)
    → s.asking ≡ None → line_refusal (facts_of (state k up g run es u lo)) CloseDay ≡ None → Stage own (map row_of es) u before now asked s run s.asking rest
    → StageAt own before now (asked ++ Beyond RepeatReceipt ∷ []) (state k up g run es u lo) (asks s) rest
asks-by own before now asked k up g None es u lo s rest idle e stage =
    let r = subst (λ a. Stage own (map row_of es) u before now asked s None a rest) idle stage in
    record { known = r.known; words = inl (only-word asked (Beyond RepeatReceipt) r.no_request, r.no_word, refl) }
asks-by own before now asked k true true (Some r) es u lo s rest idle e stage = absurd cc
asks-by own before now asked k true false (Some r) es u lo s rest idle e stage = absurd cc
asks-by own before now asked k false g (Some r) es u lo s rest idle e stage = absurd cc

pub till-asks : (own : ℕ) (before now : List Row) (asked : List Word) (t : TillState) (s : Settling) (rest : List Heard) → s.asking ≡ None → line_refusal (facts_of t) CloseDay ≡ None
    → StageAt own before now asked t s rest → StageAt own before now (asked ++ Beyond RepeatReceipt ∷ []) t (asks s) rest
till-asks own before now asked t s rest idle e stage =
    asks-by own before now asked t.settings t.line_up t.registered t.running t.book t.unclear t.last_outcome s rest idle e stage

-- ---- a line that was lost before

abbrev settling : Option Bool → StatusSoFar → Option StatusFacts → Option Pending → List Settlement → Settling
settling asking so_far last pending done = record { asking = asking; so_far = so_far; last = last; pending = pending; settled = done }

down-by : (own : ℕ) (before now : List Row) (asked : List Word) (k : Settings) (up g : Bool) (run : Option Running) (es : List Entry) (u : List (ℕ × Cause)) (lo : Option Outcome)
    (asking : Option Bool) (so_far : StatusSoFar) (last : Option StatusFacts) (pending : Option Pending) (done : List Settlement)
    → run ≡ None → asking ≡ None → Lost own (map row_of es) u before now asked (settling asking so_far last pending done)
    → Down own before now asked (step (state k up g run es u lo) LostLine) (settles (state k up g run es u lo) (settling asking so_far last pending done) LostLine)
    × (map row_of (step (state k up g run es u lo) LostLine).book ≡ map row_of es) × ((settles (state k up g run es u lo) (settling asking so_far last pending done) LostLine).settled ≡ done)
down-by own before now asked k up g None es u lo None so_far last pending done e f lost = (record { line = refl; running = refl; asking = refl; lost = lost }, refl, refl)
down-by own before now asked k up g None es u lo (Some accepted) so_far last pending done e f lost = absurd cc
down-by own before now asked k up g (Some r) es u lo asking so_far last pending done e f lost = absurd cc

pub down-loses : (own : ℕ) (before now : List Row) (asked : List Word) (t : TillState) (s : Settling) → Down own before now asked t s
    → Down own before now asked (step t LostLine) (settles t s LostLine) × (map row_of (step t LostLine).book ≡ map row_of t.book) × ((settles t s LostLine).settled ≡ s.settled)
down-loses own before now asked t s k =
    down-by own before now asked t.settings t.line_up t.registered t.running t.book t.unclear t.last_outcome s.asking s.so_far s.last s.pending s.settled k.running k.asking k.lost
