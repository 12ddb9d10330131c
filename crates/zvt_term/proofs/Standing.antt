-- What holds of a till that settles and of its terminal at each time, over a line that keeps order. For the proof that
-- settlements agree with the ledger: of the last status that is known, of the order or ask that runs, and of what is pending.
use Rattle.std.proofs.Common.{◌≡◌, ℕ, ◌⊎◌, Bool, true, false, List, [], ◌∷◌, ◌++◌, length, ◌≤◌, Option, Some, None, map, drop, filter, slice_get}
use Rattle.zvt_apdu.specs.Briefs.{digits}
use Rattle.zvt_till.specs.declared.messages.CurrencyFact.{CurrencyFact}
use Rattle.zvt_till.specs.declared.messages.Heard.{Heard}
use Rattle.zvt_till.specs.declared.messages.Heard.TheVariants.{Negative, Status, Passing, Completion, Abort}
use Rattle.zvt_till.specs.declared.messages.StatusFacts.{StatusFacts}
use Rattle.zvt_till.specs.declared.orders.Order.{Order}
use Rattle.zvt_till.specs.declared.orders.Order.TheVariants.{Register, Pay, Reverse, CloseDay, Cancel}
use Rattle.zvt_till.specs.declared.outcomes.Cause.{Cause}
use Rattle.zvt_till.specs.declared.statuses.Running.{Running}
use Rattle.zvt_till.specs.declared.statuses.Statuses.{Statuses}
use Rattle.zvt_till.specs.declared.statuses.Statuses.TheVariants.{Nothing as NoStatuses, Good as AllGood, Fault}
use Rattle.zvt_till.specs.Books.{Booked}
use Rattle.zvt_till.specs.Laws.{row_of}
use Rattle.zvt_till.specs.Till.{TillState}
use Rattle.zvt_term.specs.declared.extras.Extra.TheVariants.{RepeatReceipt}
use Rattle.zvt_term.specs.declared.ledger.Row.{Row}
use Rattle.zvt_term.specs.declared.messages.Asked.TheVariants.{Registration, Authorisation, Reversal as ReversalAsked, EndOfDay, AbortOrder, Answer}
use Rattle.zvt_term.specs.declared.turns.Phase.TheVariants.{Idle}
use Rattle.zvt_term.specs.Inside.{IsSound}
use Rattle.zvt_term.specs.Orderly.{Line}
use Rattle.zvt_term.proofs.Accounts.{words, EndsLast}
use Rattle.zvt_term.proofs.Answering.{script_of}
use Rattle.zvt_term.proofs.Facts.{code_status}
use Rattle.zvt_settle.specs.declared.deciding.Pending.{Pending}
use Rattle.zvt_settle.specs.declared.deciding.StatusSoFar.{StatusSoFar}
use Rattle.zvt_settle.specs.declared.deciding.StatusSoFar.TheVariants.{Nothing, One, Mixed}
use Rattle.zvt_settle.specs.declared.deciding.What.{What}
use Rattle.zvt_settle.specs.declared.deciding.What.TheVariants.{Payment, Reversal}
use Rattle.zvt_term.specs.AskedWorld.{payment_row}
use Rattle.zvt_term.specs.Ledgers.{status_of_row, reversal_row, AreOfRows}
use Rattle.zvt_settle.specs.Settling.{Settling, paid_traces}
use Rattle.zvt_term.proofs.AskedMeans.{Word, Plain, Beyond, Meant}

-- ---- what is known

-- the status of the last row
pub record IsLast (l : List Row) (f : StatusFacts) : Type 0 where
  pub rows : List Row
  pub row : Row
  pub is : l ≡ rows ++ row ∷ []
  pub tells : f ≡ status_of_row row

abbrev pub KnowsLast : List Row → Option StatusFacts → Type 0
KnowsLast l last = (f : StatusFacts) → last ≡ Some f → IsLast l f

-- the row that this order leads to, in the till's own currency; the rows are those of its book
abbrev pub RowFor : (own : ℕ) → List Booked → Order → Row → Type 0
RowFor own rows Register row = ⊥
RowFor own rows (Pay a) row = row ≡ payment_row row.number a own
RowFor own rows (Reverse e) row = (b : Booked) × (slice_get rows e ≡ Some b) × (row ≡ reversal_row row.number b.amount b.trace own)
RowFor own rows CloseDay row = ⊥
RowFor own rows Cancel row = ⊥

abbrev pub order_of : What → Order
order_of (Payment place a) = Pay a
order_of (Reversal e) = Reverse e

-- a payment that is pending is an unclear one
abbrev pub IsWhat : List (ℕ × Cause) → What → Type 0
IsWhat loose (Payment place a) = (cause : Cause) × (slice_get loose place ≡ Some (a, cause))
IsWhat loose (Reversal e) = Unit {0}

-- the ledger did not grow, or by the row of this order alone
abbrev pub GrewFor : (own : ℕ) → List Booked → (before now : List Row) → Order → Type 0
GrewFor own rows before now o = (now ≡ before) ⊎ ((row : Row) × (now ≡ before ++ row ∷ []) × RowFor own rows o row)

-- each row of the book is an approval of the ledger, which its receipt number spells
abbrev pub AllIn : (own : ℕ) → List Row → List Booked → Type 0
AllIn own l rows = (i : ℕ) (b : Booked) → slice_get rows i ≡ Some b → (k : ℕ) × (slice_get l k ≡ Some (payment_row b.trace b.amount own)) × (b.receipt ≡ Some (digits 2 b.trace))

-- the numbers of the book, and of the payments that were settled as paid, are those of rows
pub record Fresh (own : ℕ) (ledger : List Row) (rows : List Booked) (traces : List ℕ) : Type 0 where
  pub books : AllIn own ledger rows
  pub paid : AreOfRows traces ledger

pub record Waits (own : ℕ) (rows : List Booked) (loose : List (ℕ × Cause)) (traces : List ℕ) (before now : List Row) (p : Pending) : Type 0 where
  pub last : IsLast before p.before
  pub what : IsWhat loose p.what
  pub grew : GrewFor own rows before now (order_of p.what)
  pub fresh : Fresh own before rows traces

-- no payment or reversal runs
pub record Known (own : ℕ) (rows : List Booked) (loose : List (ℕ × Cause)) (traces : List ℕ) (before now : List Row) (the_last : Option StatusFacts) (pending : Option Pending) : Type 0 where
  pub last : KnowsLast now the_last
  pub waits : (p : Pending) → pending ≡ Some p → Waits own rows loose traces before now p

-- ---- what is on the way

-- the message of an order
abbrev pub FitsOrder : (own : ℕ) → List Booked → Order → Word → Type 0
FitsOrder own rows Register m = m ≡ Plain (Registration (Some own))
FitsOrder own rows (Pay a) m = (named : CurrencyFact) × (m ≡ Plain (Authorisation (Some a) named))
FitsOrder own rows (Reverse e) m = (b : Booked) × (slice_get rows e ≡ Some b) × (m ≡ Plain (ReversalAsked (Some (digits 2 b.trace))))
FitsOrder own rows CloseDay m = m ≡ Plain EndOfDay
FitsOrder own rows Cancel m = ⊥

abbrev pub is_request : Word → Bool
is_request (Plain AbortOrder) = false
is_request (Plain Answer) = false
is_request m = true

abbrev pub requests : List Word → List Word
requests ms = filter is_request ms

-- after the status of a row
abbrev pub Goes : List Heard → Type 0
Goes [] = Unit {0}
Goes (Passing ∷ r) = Goes r
Goes (Completion ∷ r) = r ≡ []
Goes (m ∷ r) = ⊥

-- that status first
abbrev pub Tells : StatusFacts → List Heard → Type 0
Tells f [] = Unit {0}
Tells f (Status g ∷ r) = (g ≡ f) × Goes r
Tells f (m ∷ r) = ⊥

-- no row was written
abbrev pub Denies : List Heard → Type 0
Denies [] = Unit {0}
Denies (Status f ∷ r) = ((code : ℕ) × (f ≡ code_status code)) × Denies r
Denies (Negative c ∷ r) = r ≡ []
Denies (Abort c ∷ r) = r ≡ []
Denies (m ∷ r) = ⊥

-- the answer to an ask
abbrev pub Repeats : List Row → List Heard → Type 0
Repeats l [] = Unit {0}
Repeats l (Status f ∷ r) = IsLast l f × Goes r
Repeats l (Negative c ∷ r) = r ≡ []
Repeats l (Abort c ∷ r) = r ≡ []
Repeats l (m ∷ r) = ⊥

abbrev pub Answers : List Row → StatusSoFar → List Heard → Type 0
Answers l Nothing rest = Repeats l rest
Answers l (One f) rest = IsLast l f × Goes rest
Answers l Mixed rest = ⊥

-- no status approved anything
abbrev pub NotGood : Statuses → Type 0
NotGood (AllGood t r) = ⊥
NotGood st = Unit {0}

-- after the status of its row, an order is not taken for declined
abbrev pub Claims : Order → Row → Statuses → Type 0
Claims (Pay a) row (AllGood t r) = (t ≡ Some row.number) × (r ≡ Some (digits 2 row.number))
Claims (Pay a) row (Fault x) = Unit {0}
Claims (Reverse e) row (AllGood t r) = Unit {0}
Claims (Reverse e) row (Fault x) = Unit {0}
Claims o row st = ⊥

-- a payment or a reversal that runs: its message is on the way, it was denied, or its row is written and its status comes or came
pub data Taking (own : ℕ) (rows : List Booked) (before now : List Row) (asked : List Word) (o : Order) (st : Statuses) (so_far : StatusSoFar) (rest : List Heard) : Type 0 where
  InFlight : (m : Word) → asked ≡ m ∷ [] → FitsOrder own rows o m → rest ≡ [] → now ≡ before → st ≡ NoStatuses → so_far ≡ Nothing → Taking own rows before now asked o st so_far rest
  Denied : asked ≡ [] → now ≡ before → NotGood st → Denies rest → Taking own rows before now asked o st so_far rest
  Unsaid : (row : Row) → asked ≡ [] → now ≡ before ++ row ∷ [] → RowFor own rows o row → st ≡ NoStatuses → so_far ≡ Nothing → Tells (status_of_row row) rest → Taking own rows before now asked o st so_far rest
  Said : (row : Row) → asked ≡ [] → now ≡ before ++ row ∷ [] → RowFor own rows o row → Claims o row st → so_far ≡ One (status_of_row row) → Goes rest → Taking own rows before now asked o st so_far rest

pub record Paying (own : ℕ) (rows : List Booked) (before now : List Row) (asked : List Word) (s : Settling) (o : Order) (st : Statuses) (rest : List Heard) : Type 0 where
  pub last : KnowsLast before s.last
  pub pending : s.pending ≡ None
  pub fresh : Fresh own before rows (paid_traces s.settled)
  pub taking : Taking own rows before now asked o st s.so_far rest

abbrev pub KnownBy : (own : ℕ) → List Booked → List (ℕ × Cause) → (before now : List Row) → Settling → Type 0
KnownBy own rows loose before now s = Known own rows loose (paid_traces s.settled) before now s.last s.pending

-- a registration or an end of day that runs
pub record Quiet (own : ℕ) (rows : List Booked) (loose : List (ℕ × Cause)) (before now : List Row) (asked : List Word) (s : Settling) (o : Order) (rest : List Heard) : Type 0 where
  pub known : KnownBy own rows loose before now s
  pub words : ((m : Word) × (asked ≡ m ∷ []) × FitsOrder own rows o m × (rest ≡ [])) ⊎ ((asked ≡ []) × EndsLast rest)

abbrev pub RunsAs : (own : ℕ) → List Booked → List (ℕ × Cause) → (before now : List Row) → List Word → Settling → Order → Statuses → List Heard → Type 0
RunsAs own rows loose before now asked s Register st rest = Quiet own rows loose before now asked s Register rest
RunsAs own rows loose before now asked s (Pay a) st rest = Paying own rows before now asked s (Pay a) st rest
RunsAs own rows loose before now asked s (Reverse e) st rest = Paying own rows before now asked s (Reverse e) st rest
RunsAs own rows loose before now asked s CloseDay st rest = Quiet own rows loose before now asked s CloseDay rest
RunsAs own rows loose before now asked s Cancel st rest = ⊥

pub record Asking (own : ℕ) (rows : List Booked) (loose : List (ℕ × Cause)) (before now : List Row) (asked : List Word) (s : Settling) (rest : List Heard) : Type 0 where
  pub known : KnownBy own rows loose before now s
  pub words : ((asked ≡ Beyond RepeatReceipt ∷ []) × (rest ≡ []) × (s.so_far ≡ Nothing)) ⊎ ((asked ≡ []) × Answers now s.so_far rest)

pub record Resting (own : ℕ) (rows : List Booked) (loose : List (ℕ × Cause)) (before now : List Row) (asked : List Word) (s : Settling) (rest : List Heard) : Type 0 where
  pub known : KnownBy own rows loose before now s
  pub no_request : asked ≡ []
  pub no_word : rest ≡ []

-- the line of the till is up
abbrev pub Stage : (own : ℕ) → List Booked → List (ℕ × Cause) → (before now : List Row) → List Word → Settling → Option Running → Option Bool → List Heard → Type 0
Stage own rows loose before now asked s None None rest = Resting own rows loose before now asked s rest
Stage own rows loose before now asked s None (Some accepted) rest = Asking own rows loose before now asked s rest
Stage own rows loose before now asked s (Some r) None rest = RunsAs own rows loose before now asked s r.order r.statuses rest
Stage own rows loose before now asked s (Some r) (Some accepted) rest = ⊥

-- a message that writes no row
abbrev pub Harmless : (own : ℕ) → List Booked → Word → Type 0
Harmless own rows m = FitsOrder own rows Register m ⊎ (FitsOrder own rows CloseDay m ⊎ (m ≡ Beyond RepeatReceipt))

-- a payment or reversal whose message may still arrive after the till lost its line
pub record Hanging (own : ℕ) (rows : List Booked) (loose : List (ℕ × Cause)) (before now : List Row) (m : Word) (s : Settling) : Type 0 where
  pub what : What
  pub fits : FitsOrder own rows (order_of what) m
  pub same : now ≡ before
  pub last : s.last ≡ None
  pub waits : (p : Pending) → s.pending ≡ Some p → IsLast before p.before × IsWhat loose p.what × (p.what ≡ what) × Fresh own before rows (paid_traces s.settled)

-- the till has lost its line
pub data Lost (own : ℕ) (rows : List Booked) (loose : List (ℕ × Cause)) (before now : List Row) (asked : List Word) (s : Settling) : Type 0 where
  Settled : KnownBy own rows loose before now s → ((asked ≡ []) ⊎ ((m : Word) × (asked ≡ m ∷ []) × Harmless own rows m)) → Lost own rows loose before now asked s
  Hangs : (m : Word) → asked ≡ m ∷ [] → Hanging own rows loose before now m s → Lost own rows loose before now asked s

pub record Down (own : ℕ) (before now : List Row) (asked : List Word) (t : TillState) (s : Settling) : Type 0 where
  pub line : t.line_up ≡ false
  pub running : t.running ≡ None
  pub asking : s.asking ≡ None
  pub lost : Lost own (map row_of t.book) t.unclear before now asked s

abbrev pub StageAt : (own : ℕ) → (before now : List Row) → List Word → TillState → Settling → List Heard → Type 0
StageAt own before now asked t s rest = Stage own (map row_of t.book) t.unclear before now asked s t.running s.asking rest

abbrev pub Stands : Bool → (own : ℕ) → (before now : List Row) → List Word → TillState → Settling → List Heard → Type 0
Stands true own before now asked t s rest = Down own before now asked t s
Stands false own before now asked t s rest = (t.line_up ≡ true) × StageAt own before now asked t s rest

-- ---- both ends

abbrev pub asked_on : Meant → Line → List Word
asked_on w c = requests (drop c.to_terminal w.from_till)

abbrev pub rest_on : Meant → Line → List Heard
rest_on w c = words (drop c.to_till w.from_terminal) ++ words (script_of w.terminal.phase)

-- a registration that was sent is in the till's own currency
abbrev pub OwnWord : (own : ℕ) → Word → Type 0
OwnWord own (Plain (Registration currency)) = currency ≡ Some own
OwnWord own (Beyond x) = x ≡ RepeatReceipt
OwnWord own m = Unit {0}

abbrev pub AllOwn : (own : ℕ) → List Word → Type 0
AllOwn own [] = Unit {0}
AllOwn own (m ∷ ms) = OwnWord own m × AllOwn own ms

pub record Holds (own : ℕ) (w : Meant) (c : Line) : Type 0 where
  pub till_sent : c.to_terminal ≤ length w.from_till
  pub terminal_sent : c.to_till ≤ length w.from_terminal
  pub silent : c.terminal_lost ≡ true → w.terminal.phase ≡ Idle
  pub currency : w.till.settings.currency ≡ own
  pub keeps : w.terminal.registered ≡ true → w.terminal.currency ≡ Some own
  pub sent : AllOwn own w.from_till
  pub sound : IsSound w.terminal
  pub fresh : Fresh own w.terminal.ledger (map row_of w.till.book) (paid_traces w.settling.settled)
  pub stands : Stands c.till_lost own w.before w.terminal.ledger (asked_on w c) w.till w.settling (rest_on w c)
