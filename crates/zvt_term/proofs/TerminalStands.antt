-- What stays true as the terminal hears a message, and as it loses its line. For the proof that settlements agree with the ledger.
use Rattle.std.proofs.Common.{◌≡◌, ℕ, ◌⊎◌, inl, inr, Bool, true, false, cond, ◌==◌, List, [], ◌∷◌, ◌++◌, Option, Some, None, map, slice_get, refl, sym, ap, ap₂, subst, ◌∙◌, append-nil}
use Rattle.zvt_apdu.specs.Briefs.{digits}
use Rattle.zvt_till.specs.declared.messages.CurrencyFact.{CurrencyFact}
use Rattle.zvt_till.specs.declared.messages.Heard.{Heard}
use Rattle.zvt_till.specs.declared.messages.Heard.TheVariants.{Positive, Negative, Status, Completion}
use Rattle.zvt_till.specs.declared.orders.Order.{Order}
use Rattle.zvt_till.specs.declared.orders.Order.TheVariants.{Register, Pay, Reverse, CloseDay, Cancel}
use Rattle.zvt_till.specs.declared.outcomes.Cause.{Cause}
use Rattle.zvt_till.specs.declared.statuses.Running.{Running}
use Rattle.zvt_till.specs.declared.statuses.Statuses.{Statuses}
use Rattle.zvt_till.specs.declared.statuses.Statuses.TheVariants.{Nothing as NoStatuses}
use Rattle.zvt_till.specs.Books.{Booked}
use Rattle.zvt_till.specs.Laws.{row_of}
use Rattle.zvt_till.specs.Till.{TillState}
use Rattle.zvt_term.specs.declared.extras.Extra.TheVariants.{RepeatReceipt}
use Rattle.zvt_term.specs.declared.ledger.Row.{Row}
use Rattle.zvt_term.specs.declared.messages.Asked.TheVariants.{Registration, Authorisation, Reversal as ReversalAsked, EndOfDay, AbortOrder, Answer}
use Rattle.zvt_term.specs.declared.messages.Report.{Report}
use Rattle.zvt_term.specs.declared.turns.Phase.{Phase}
use Rattle.zvt_term.specs.declared.turns.Phase.TheVariants.{Idle, Printing, Completing, Aborting, Ending}
use Rattle.zvt_term.specs.declared.turns.Verdict.{Verdict}
use Rattle.zvt_term.specs.Extended.{report_of_row}
use Rattle.zvt_term.specs.Terminal.{TerminalState, next_number, is_idle, is_ready, goes_on, after}
use Rattle.zvt_term.proofs.Accounting.{and-left}
use Rattle.zvt_term.proofs.Talking.{nothing-first, nothing-last}
use Rattle.zvt_term.proofs.Accounts.{words, EndsLast}
use Rattle.zvt_term.proofs.Answering.{script_of, answer-says}
use Rattle.zvt_term.proofs.Facts.{heard_of, approval_status, reversal_status}
use Rattle.zvt_settle.specs.declared.deciding.StatusSoFar.{StatusSoFar}
use Rattle.zvt_settle.specs.declared.deciding.StatusSoFar.TheVariants.{Nothing}
use Rattle.zvt_settle.specs.declared.deciding.What.{What}
use Rattle.zvt_settle.specs.declared.deciding.What.TheVariants.{Payment, Reversal}
use Rattle.zvt_term.specs.Ledgers.{status_of_row}
use Rattle.zvt_settle.specs.Settling.{Settling}
use Rattle.zvt_term.proofs.AskedMeans.{Word, Plain, Beyond, after_on, said_on}
use Rattle.zvt_term.proofs.LedgerRows.{IsNamed, last-split}
use Rattle.zvt_term.proofs.Standing.{IsLast, RowFor, GrewFor, NotGood, KnownBy, FitsOrder, requests, Tells, Denies, Repeats, Answers, Taking, InFlight, Denied, Unsaid, Said, Paying, Quiet, RunsAs, Asking, Stage, Harmless, Lost, Settled, Hangs, Stands, order_of}
use Rattle.zvt_term.proofs.TurnCases.{payment-cases, reversal-cases, registration-cases, closing-cases, repeat-cases}

-- what the terminal says now and later, as the till hears it
abbrev pub speech : TerminalState → List Report → List Heard
speech s said = words (map heard_of said) ++ words (script_of s.phase)

-- ---- a message that asks for nothing

pub record Unheeded (s t : TerminalState) (said : List Report) : Type 0 where
  pub ledger : t.ledger ≡ s.ledger
  pub registered : t.registered ≡ s.registered
  pub currency : t.currency ≡ s.currency
  pub says : speech t said ≡ words (script_of s.phase)

pub abort-unheeded : (s : TerminalState) (v : Verdict) → Unheeded s (after_on s (Plain AbortOrder) v) (said_on s (Plain AbortOrder) v)
abort-unheeded s v = record { ledger = append-nil s.ledger; registered = refl; currency = refl; says = refl }

record Moved (s t : TerminalState) : Type 0 where
  ledger : t.ledger ≡ s.ledger
  registered : t.registered ≡ s.registered
  currency : t.currency ≡ s.currency

answer-moves : (s : TerminalState) (phase : Phase) → Moved s (after s (goes_on s phase))
answer-moves s Idle = record { ledger = append-nil s.ledger; registered = refl; currency = refl }
answer-moves s (Printing line) = record { ledger = append-nil s.ledger; registered = refl; currency = refl }
answer-moves s Completing = record { ledger = append-nil s.ledger; registered = refl; currency = refl }
answer-moves s (Aborting code) = record { ledger = append-nil s.ledger; registered = refl; currency = refl }
answer-moves s Ending = record { ledger = append-nil s.ledger; registered = refl; currency = refl }

pub answer-unheeded : (s : TerminalState) (v : Verdict) → Unheeded s (after_on s (Plain Answer) v) (said_on s (Plain Answer) v)
answer-unheeded s v =
    let k = answer-moves s s.phase in record { ledger = k.ledger; registered = k.registered; currency = k.currency; says = answer-says s v }

-- ---- a payment or a reversal

pub record Turned (own : ℕ) (rows : List Booked) (o : Order) (s t : TerminalState) (said : List Report) : Type 0 where
  pub registered : t.registered ≡ s.registered
  pub currency : t.currency ≡ s.currency
  pub result : ((t.ledger ≡ s.ledger) × (words (script_of s.phase) ≡ [] → Denies (speech t said)))
      ⊎ ((row : Row) × (t.ledger ≡ s.ledger ++ row ∷ []) × RowFor own rows o row × Tells (status_of_row row) (speech t said))

refusal-denies : (s : TerminalState) (code : ℕ) → (code == 0) ≡ false → words (script_of s.phase) ≡ [] → Denies (words (cond (code == 0) Positive (Negative code) ∷ []) ++ words (script_of s.phase))
refusal-denies s code nonzero quiet = subst (λ b. Denies (words (cond b Positive (Negative code) ∷ []) ++ words (script_of s.phase))) (sym nonzero) quiet

own-currency : (own : ℕ) (s : TerminalState) → (s.registered ≡ true → s.currency ≡ Some own) → is_ready s ≡ true → s.currency ≡ Some own
own-currency own s keeps ready = keeps (and-left s.registered (is_idle s.phase) ready)

approval-tells : (a n : ℕ) (c : Option ℕ) → approval_status a n c ≡ status_of_row (record { number = n; amount = a; currency = c; reverses = None })
approval-tells a n None = refl
approval-tells a n (Some own) = refl

reversal-tells : (a n original : ℕ) (c : Option ℕ) → reversal_status a n original c ≡ status_of_row (record { number = n; amount = a; currency = c; reverses = Some original })
reversal-tells a n original None = refl
reversal-tells a n original (Some own) = refl

payment-turned : (own : ℕ) (rows : List Booked) (s : TerminalState) (a : ℕ) (named : CurrencyFact) (v : Verdict) → (s.registered ≡ true → s.currency ≡ Some own)
    → Turned own rows (Pay a) s (after_on s (Plain (Authorisation (Some a) named)) v) (said_on s (Plain (Authorisation (Some a) named)) v)
payment-turned own rows s a named v keeps =
    payment-cases (λ t said. Turned own rows (Pay a) s t said) s a named v
    (λ code nonzero. record { registered = refl; currency = refl; result = inl (append-nil s.ledger, refusal-denies s code nonzero) })
    (λ ready.
    let row : Row = record { number = next_number s; amount = a; currency = s.currency; reverses = None } in
    record {
      registered = refl;
      currency = refl;
      result = inr (
        row,
        refl,
        ap (λ (c : Option ℕ). record { number = next_number s; amount = a; currency = c; reverses = None }) (own-currency own s keeps ready),
        (approval-tells a (next_number s) s.currency, refl),
      );
    })
    (λ code. record { registered = refl; currency = refl; result = inl (append-nil s.ledger, λ quiet. ((code, refl), refl)) })

reversal-turned : (own : ℕ) (rows : List Booked) (s : TerminalState) (e : ℕ) (b : Booked) (v : Verdict) → (s.registered ≡ true → s.currency ≡ Some own) → IsNamed s.ledger rows → slice_get rows e ≡ Some b
    → Turned own rows (Reverse e) s (after_on s (Plain (ReversalAsked (Some (digits 2 b.trace)))) v) (said_on s (Plain (ReversalAsked (Some (digits 2 b.trace)))) v)
reversal-turned own rows s e b v keeps named found =
    reversal-cases (λ t said. Turned own rows (Reverse e) s t said) s (digits 2 b.trace) v
    (λ code nonzero. record { registered = refl; currency = refl; result = inl (append-nil s.ledger, refusal-denies s code nonzero) })
    (λ code. record { registered = refl; currency = refl; result = inl (append-nil s.ledger, λ quiet. refl) })
    (λ old ready is.
    let row : Row = record { number = next_number s; amount = old.amount; currency = s.currency; reverses = Some old.number } in
    let same = named e b found old is in
    record {
      registered = refl;
      currency = refl;
      result = inr (
        row,
        refl,
        (
          b,
          found,
          ap₂ (λ (n : ℕ) (a : ℕ). record { number = next_number s; amount = a; currency = s.currency; reverses = Some n }) same.0 same.1
              ∙ ap (λ (c : Option ℕ). record { number = next_number s; amount = b.amount; currency = c; reverses = Some b.trace }) (own-currency own s keeps ready),
        ),
        (reversal-tells old.amount (next_number s) old.number s.currency, refl),
      );
    })

-- ---- a registration, an end of day and an ask

record Spoken (own : ℕ) (s t : TerminalState) (P : List Heard → Type 0) (said : List Report) : Type 0 where
  ledger : t.ledger ≡ s.ledger
  keeps : t.registered ≡ true → t.currency ≡ Some own
  says : words (script_of s.phase) ≡ [] → P (speech t said)

registration-spoken : (own : ℕ) (s : TerminalState) (v : Verdict) → (s.registered ≡ true → s.currency ≡ Some own)
    → Spoken own s (after_on s (Plain (Registration (Some own))) v) EndsLast (said_on s (Plain (Registration (Some own))) v)
registration-spoken own s v keeps =
    registration-cases (λ t said. Spoken own s t EndsLast said) s (Some own) v
    (record { ledger = append-nil s.ledger; keeps = keeps; says = λ quiet. quiet })
    (record { ledger = append-nil s.ledger; keeps = λ e. refl; says = λ quiet. refl })

closing-spoken : (own : ℕ) (s : TerminalState) (v : Verdict) → (s.registered ≡ true → s.currency ≡ Some own)
    → Spoken own s (after_on s (Plain EndOfDay) v) EndsLast (said_on s (Plain EndOfDay) v)
closing-spoken own s v keeps =
    closing-cases (λ t said. Spoken own s t EndsLast said) s v
    (record { ledger = append-nil s.ledger; keeps = keeps; says = λ quiet. quiet })
    (record { ledger = append-nil s.ledger; keeps = keeps; says = λ quiet. refl })

pub report-heard : (row : Row) → heard_of (report_of_row row) ≡ Status (status_of_row row)
report-heard row = by_kind row.reverses row.currency
  where
    by_kind : (o c : Option ℕ)
        → heard_of (report_of_row (record { number = row.number; amount = row.amount; currency = c; reverses = o })) ≡ Status (status_of_row (record { number = row.number; amount = row.amount; currency = c; reverses = o }))
    by_kind None None = refl
    by_kind None (Some own) = refl
    by_kind (Some original) None = refl
    by_kind (Some original) (Some own) = refl

repeat-spoken : (own : ℕ) (s : TerminalState) (v : Verdict) → (s.registered ≡ true → s.currency ≡ Some own)
    → Spoken own s (after_on s (Beyond RepeatReceipt) v) (Repeats s.ledger) (said_on s (Beyond RepeatReceipt) v)
repeat-spoken own s v keeps =
    repeat-cases (λ t said. Spoken own s t (Repeats s.ledger) said) s
    (record { ledger = append-nil s.ledger; keeps = keeps; says = λ quiet. quiet })
    (record { ledger = append-nil s.ledger; keeps = keeps; says = λ quiet. refl })
    (λ row is.
    let w = last-split s.ledger row is in
    let last : IsLast s.ledger (status_of_row row) = record { rows = w.0; row = row; is = w.1; tells = refl } in
    record {
      ledger = append-nil s.ledger;
      keeps = keeps;
      says = λ quiet. subst (λ h. Repeats s.ledger (words (h ∷ []) ++ Completion ∷ [])) (sym (report-heard row)) (last, refl);
    })

-- ---- while the line of the till is up

known-as : (own : ℕ) (rows : List Booked) (loose : List (ℕ × Cause)) (before now later : List Row) (s : Settling) → later ≡ now → KnownBy own rows loose before now s → KnownBy own rows loose before later s
known-as own rows loose before now later s e k = subst (λ l. KnownBy own rows loose before l s) (sym e) k

taking-hears : (own : ℕ) (rows : List Booked) (o : Order) (before : List Row) (s t : TerminalState) (said : List Report) (st : Statuses) (m : Word) (q : List Word) (x : Settling)
    → words (script_of s.phase) ≡ [] → q ≡ [] → s.ledger ≡ before → st ≡ NoStatuses → x.so_far ≡ Nothing → Turned own rows o s t said
    → Taking own rows before t.ledger q o st x.so_far (speech t said)
taking-hears own rows o before s t said st m q x quiet alone same none nothing turned = by_result turned.result
  where
    by_result : ((t.ledger ≡ s.ledger) × (words (script_of s.phase) ≡ [] → Denies (speech t said)))
        ⊎ ((row : Row) × (t.ledger ≡ s.ledger ++ row ∷ []) × RowFor own rows o row × Tells (status_of_row row) (speech t said))
        → Taking own rows before t.ledger q o st x.so_far (speech t said)
    by_result (inl k) = Denied alone (k.0 ∙ same) (subst NotGood (sym none) tt) (k.1 quiet)
    by_result (inr k) = Unsaid k.0 alone (k.1 ∙ ap (λ l. l ++ k.0 ∷ []) same) k.2 none nothing k.3

-- the message of the order that runs was the only one, and nothing was to be said
pub record Alone (m n : Word) (q : List Word) (said : List Heard) (s : TerminalState) : Type 0 where
  pub word : m ≡ n
  pub last : q ≡ []
  pub heard : said ≡ []
  pub quiet : words (script_of s.phase) ≡ []

pub alone : (m n : Word) (q : List Word) (said : List Heard) (s : TerminalState) → m ∷ q ≡ n ∷ [] → said ++ words (script_of s.phase) ≡ [] → Alone m n q said s
alone m n q said s e p = record { word = cc; last = cc; heard = nothing-first said (words (script_of s.phase)) p; quiet = nothing-last said (words (script_of s.phase)) p }

abbrev pub TurnOfOrder : (own : ℕ) → List Booked → TerminalState → Word → Verdict → Order → Type 0
TurnOfOrder own rows s m v o = Turned own rows o s (after_on s m v) (said_on s m v)

pay-turned : (own : ℕ) (rows : List Booked) (s : TerminalState) (m : Word) (v : Verdict) (a : ℕ) → (s.registered ≡ true → s.currency ≡ Some own) → FitsOrder own rows (Pay a) m → TurnOfOrder own rows s m v (Pay a)
pay-turned own rows s m v a keeps f = subst (λ n. TurnOfOrder own rows s n v (Pay a)) (sym f.1) (payment-turned own rows s a f.0 v keeps)

reverse-turned : (own : ℕ) (rows : List Booked) (s : TerminalState) (m : Word) (v : Verdict) (e : ℕ) → (s.registered ≡ true → s.currency ≡ Some own) → IsNamed s.ledger rows → FitsOrder own rows (Reverse e) m
    → TurnOfOrder own rows s m v (Reverse e)
reverse-turned own rows s m v e keeps named f = subst (λ n. TurnOfOrder own rows s n v (Reverse e)) (sym f.2) (reversal-turned own rows s e f.0 v keeps named f.1)

paying-hears : (own : ℕ) (rows : List Booked) (o : Order) (before : List Row) (s : TerminalState) (m : Word) (v : Verdict) (q : List Word) (x : Settling) (st : Statuses) (said : List Heard)
    → ((n : Word) → FitsOrder own rows o n → TurnOfOrder own rows s n v o)
    → Paying own rows before s.ledger (m ∷ q) x o st (said ++ words (script_of s.phase))
    → Paying own rows before (after_on s m v).ledger q x o st (said ++ speech (after_on s m v) (said_on s m v))
paying-hears own rows o before s m v q x st said turns p = record { last = p.last; pending = p.pending; fresh = p.fresh; taking = by_taking p.taking }
  where
    by_taking : Taking own rows before s.ledger (m ∷ q) o st x.so_far (said ++ words (script_of s.phase))
        → Taking own rows before (after_on s m v).ledger q o st x.so_far (said ++ speech (after_on s m v) (said_on s m v))
    by_taking (InFlight n e f none same nothing empty) =
        let only = alone m n q said s e none in
        subst (λ y. Taking own rows before (after_on s m v).ledger q o st x.so_far (y ++ speech (after_on s m v) (said_on s m v))) (sym only.heard)
        (taking-hears own rows o before s (after_on s m v) (said_on s m v) st m q x only.quiet only.last same nothing empty (turns m (subst (FitsOrder own rows o) (sym only.word) f)))
    by_taking (Denied e same k d) = absurd cc
    by_taking (Unsaid row e same f none nothing k) = absurd cc
    by_taking (Said row e same f good so_far k) = absurd cc

quiet-hears : (own : ℕ) (rows : List Booked) (loose : List (ℕ × Cause)) (o : Order) (before : List Row) (s : TerminalState) (m : Word) (v : Verdict) (q : List Word) (x : Settling) (said : List Heard)
    → ((n : Word) → FitsOrder own rows o n → Spoken own s (after_on s n v) EndsLast (said_on s n v))
    → Quiet own rows loose before s.ledger (m ∷ q) x o (said ++ words (script_of s.phase))
    → Quiet own rows loose before (after_on s m v).ledger q x o (said ++ speech (after_on s m v) (said_on s m v))
quiet-hears own rows loose o before s m v q x said spoken k = by_words k.words
  where
    by_words : ((n : Word) × (m ∷ q ≡ n ∷ []) × FitsOrder own rows o n × (said ++ words (script_of s.phase) ≡ [])) ⊎ ((m ∷ q ≡ []) × EndsLast (said ++ words (script_of s.phase)))
        → Quiet own rows loose before (after_on s m v).ledger q x o (said ++ speech (after_on s m v) (said_on s m v))
    by_words (inr w) = absurd cc
    by_words (inl w) =
        let only = alone m w.0 q said s w.1 w.3 in
        let turn = spoken m (subst (FitsOrder own rows o) (sym only.word) w.2) in
        record {
          known = known-as own rows loose before s.ledger (after_on s m v).ledger x turn.ledger k.known;
          words = inr (only.last, subst (λ y. EndsLast (y ++ speech (after_on s m v) (said_on s m v))) (sym only.heard) (turn.says only.quiet));
        }

answers-of : (l later : List Row) (so_far : StatusSoFar) (rest : List Heard) → later ≡ l → so_far ≡ Nothing → Repeats l rest → Answers later so_far rest
answers-of l later so_far rest e nothing k = subst (λ z. Answers later z rest) (sym nothing) (subst (λ x. Repeats x rest) (sym e) k)

asking-hears : (own : ℕ) (rows : List Booked) (loose : List (ℕ × Cause)) (before : List Row) (s : TerminalState) (m : Word) (v : Verdict) (q : List Word) (x : Settling) (said : List Heard)
    → (s.registered ≡ true → s.currency ≡ Some own)
    → Asking own rows loose before s.ledger (m ∷ q) x (said ++ words (script_of s.phase))
    → Asking own rows loose before (after_on s m v).ledger q x (said ++ speech (after_on s m v) (said_on s m v))
asking-hears own rows loose before s m v q x said keeps k = by_words k.words
  where
    by_words : ((m ∷ q ≡ Beyond RepeatReceipt ∷ []) × (said ++ words (script_of s.phase) ≡ []) × (x.so_far ≡ Nothing)) ⊎ ((m ∷ q ≡ []) × Answers s.ledger x.so_far (said ++ words (script_of s.phase)))
        → Asking own rows loose before (after_on s m v).ledger q x (said ++ speech (after_on s m v) (said_on s m v))
    by_words (inr w) = absurd cc
    by_words (inl w) =
        let only = alone m (Beyond RepeatReceipt) q said s w.0 w.1 in
        let turn = subst (λ n. Spoken own s (after_on s n v) (Repeats s.ledger) (said_on s n v)) (sym only.word) (repeat-spoken own s v keeps) in
        record {
          known = known-as own rows loose before s.ledger (after_on s m v).ledger x turn.ledger k.known;
          words = inr (
            only.last,
            answers-of s.ledger (after_on s m v).ledger x.so_far (said ++ speech (after_on s m v) (said_on s m v)) turn.ledger w.2
                (subst (λ y. Repeats s.ledger (y ++ speech (after_on s m v) (said_on s m v))) (sym only.heard) (turn.says only.quiet)),
          );
        }

-- what the terminal needs
pub record Able (own : ℕ) (rows : List Booked) (s : TerminalState) : Type 0 where
  pub keeps : s.registered ≡ true → s.currency ≡ Some own
  pub named : IsNamed s.ledger rows

runs-hears : (own : ℕ) (rows : List Booked) (loose : List (ℕ × Cause)) (o : Order) (before : List Row) (s : TerminalState) (m : Word) (v : Verdict) (q : List Word) (x : Settling) (st : Statuses) (said : List Heard)
    → Able own rows s
    → RunsAs own rows loose before s.ledger (m ∷ q) x o st (said ++ words (script_of s.phase))
    → RunsAs own rows loose before (after_on s m v).ledger q x o st (said ++ speech (after_on s m v) (said_on s m v))
runs-hears own rows loose Register before s m v q x st said able k =
    quiet-hears own rows loose Register before s m v q x said
    (λ n f. subst (λ y. Spoken own s (after_on s y v) EndsLast (said_on s y v)) (sym f) (registration-spoken own s v able.keeps)) k
runs-hears own rows loose (Pay a) before s m v q x st said able k =
    paying-hears own rows (Pay a) before s m v q x st said (λ n f. pay-turned own rows s n v a able.keeps f) k
runs-hears own rows loose (Reverse e) before s m v q x st said able k =
    paying-hears own rows (Reverse e) before s m v q x st said (λ n f. reverse-turned own rows s n v e able.keeps able.named f) k
runs-hears own rows loose CloseDay before s m v q x st said able k =
    quiet-hears own rows loose CloseDay before s m v q x said
    (λ n f. subst (λ y. Spoken own s (after_on s y v) EndsLast (said_on s y v)) (sym f) (closing-spoken own s v able.keeps)) k
runs-hears own rows loose Cancel before s m v q x st said able k = absurd k

stage-hears : (own : ℕ) (rows : List Booked) (loose : List (ℕ × Cause)) (before : List Row) (s : TerminalState) (m : Word) (v : Verdict) (q : List Word) (x : Settling) (run : Option Running) (asking : Option Bool) (said : List Heard)
    → Able own rows s
    → Stage own rows loose before s.ledger (m ∷ q) x run asking (said ++ words (script_of s.phase))
    → Stage own rows loose before (after_on s m v).ledger q x run asking (said ++ speech (after_on s m v) (said_on s m v))
stage-hears own rows loose before s m v q x None None said able k = let none = k.no_request in absurd cc
stage-hears own rows loose before s m v q x None (Some accepted) said able k = asking-hears own rows loose before s m v q x said able.keeps k
stage-hears own rows loose before s m v q x (Some r) None said able k = runs-hears own rows loose r.order before s m v q x r.statuses said able k
stage-hears own rows loose before s m v q x (Some r) (Some accepted) said able k = absurd k

-- ---- after the till lost its line

pub harmless-ledger : (own : ℕ) (rows : List Booked) (s : TerminalState) (m : Word) (v : Verdict) → (s.registered ≡ true → s.currency ≡ Some own) → Harmless own rows m → (after_on s m v).ledger ≡ s.ledger
harmless-ledger own rows s m v keeps (inl f) = subst (λ y. (after_on s y v).ledger ≡ s.ledger) (sym f) (registration-spoken own s v keeps).ledger
harmless-ledger own rows s m v keeps (inr (inl f)) = subst (λ y. (after_on s y v).ledger ≡ s.ledger) (sym f) (closing-spoken own s v keeps).ledger
harmless-ledger own rows s m v keeps (inr (inr f)) = subst (λ y. (after_on s y v).ledger ≡ s.ledger) (sym f) (repeat-spoken own s v keeps).ledger

pub what-turned : (own : ℕ) (rows : List Booked) (s : TerminalState) (m : Word) (v : Verdict) (w : What) → Able own rows s → FitsOrder own rows (order_of w) m → TurnOfOrder own rows s m v (order_of w)
what-turned own rows s m v (Payment place a) able f = pay-turned own rows s m v a able.keeps f
what-turned own rows s m v (Reversal e) able f = reverse-turned own rows s m v e able.keeps able.named f

pub grew-of : (own : ℕ) (rows : List Booked) (o : Order) (before : List Row) (s t : TerminalState) (said : List Report) → s.ledger ≡ before → Turned own rows o s t said → GrewFor own rows before t.ledger o
grew-of own rows o before s t said same turned = by_result turned.result
  where
    by_result : ((t.ledger ≡ s.ledger) × (words (script_of s.phase) ≡ [] → Denies (speech t said)))
        ⊎ ((row : Row) × (t.ledger ≡ s.ledger ++ row ∷ []) × RowFor own rows o row × Tells (status_of_row row) (speech t said)) → GrewFor own rows before t.ledger o
    by_result (inl k) = inl (k.0 ∙ same)
    by_result (inr k) = inr (k.0, k.1 ∙ ap (λ l. l ++ k.0 ∷ []) same, k.2)

lost-hears : (own : ℕ) (rows : List Booked) (loose : List (ℕ × Cause)) (before : List Row) (s : TerminalState) (m : Word) (v : Verdict) (q : List Word) (x : Settling) → Able own rows s
    → Lost own rows loose before s.ledger (m ∷ q) x → Lost own rows loose before (after_on s m v).ledger q x
lost-hears own rows loose before s m v q x able (Settled k (inl e)) = absurd cc
lost-hears own rows loose before s m v q x able (Settled k (inr (n, e, h))) =
    let word : m ≡ n = cc in
    let same = harmless-ledger own rows s m v able.keeps (subst (Harmless own rows) (sym word) h) in
    Settled (known-as own rows loose before s.ledger (after_on s m v).ledger x same k) (inl cc)
lost-hears own rows loose before s m v q x able (Hangs n e h) =
    let word : m ≡ n = cc in
    let turned = what-turned own rows s m v h.what able (subst (FitsOrder own rows (order_of h.what)) (sym word) h.fits) in
    let grew = grew-of own rows (order_of h.what) before s (after_on s m v) (said_on s m v) h.same turned in
    Settled
    (record {
      last = λ f is. let none : None ≡ Some f = sym h.last ∙ is in absurd cc;
      waits = λ p is.
          let w = h.waits p is in record { last = w.0; what = w.1; grew = subst (λ y. GrewFor own rows before (after_on s m v).ledger (order_of y)) (sym w.2) grew; fresh = w.3 };
    })
    (inl cc)

-- ---- both

request-hears : (down : Bool) (own : ℕ) (before : List Row) (s : TerminalState) (m : Word) (v : Verdict) (q : List Word) (t : TillState) (x : Settling) (said : List Heard)
    → Able own (map row_of t.book) s
    → Stands down own before s.ledger (m ∷ q) t x (said ++ words (script_of s.phase))
    → Stands down own before (after_on s m v).ledger q t x (said ++ speech (after_on s m v) (said_on s m v))
request-hears true own before s m v q t x said able k =
    record { line = k.line; running = k.running; asking = k.asking; lost = lost-hears own (map row_of t.book) t.unclear before s m v q x able k.lost }
request-hears false own before s m v q t x said able (up, k) = (up, stage-hears own (map row_of t.book) t.unclear before s m v q x t.running x.asking said able k)

unheeded-hears : (down : Bool) (own : ℕ) (before : List Row) (s u : TerminalState) (reports : List Report) (q : List Word) (t : TillState) (x : Settling) (said : List Heard) → Unheeded s u reports
    → Stands down own before s.ledger q t x (said ++ words (script_of s.phase)) → Stands down own before u.ledger q t x (said ++ speech u reports)
unheeded-hears down own before s u reports q t x said k stands =
    subst (λ l. Stands down own before l q t x (said ++ speech u reports)) (sym k.ledger)
    (subst (λ r. Stands down own before s.ledger q t x (said ++ r)) (sym k.says) stands)

pub terminal-hears : (down : Bool) (own : ℕ) (before : List Row) (s : TerminalState) (m : Word) (v : Verdict) (q : List Word) (t : TillState) (x : Settling) (said : List Heard)
    → Able own (map row_of t.book) s
    → Stands down own before s.ledger (requests (m ∷ q)) t x (said ++ words (script_of s.phase))
    → Stands down own before (after_on s m v).ledger (requests q) t x (said ++ speech (after_on s m v) (said_on s m v))
terminal-hears down own before s (Plain AbortOrder) v q t x said able k =
    unheeded-hears down own before s (after_on s (Plain AbortOrder) v) (said_on s (Plain AbortOrder) v) (requests q) t x said (abort-unheeded s v) k
terminal-hears down own before s (Plain Answer) v q t x said able k =
    unheeded-hears down own before s (after_on s (Plain Answer) v) (said_on s (Plain Answer) v) (requests q) t x said (answer-unheeded s v) k
terminal-hears down own before s m v q t x said able k = request-hears down own before s m v (requests q) t x said able k
