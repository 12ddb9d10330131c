-- What clients are told about orders, and which orders they ask for.
use Rattle.std.specs.Prelude.{◌≡◌, ◌==◌, ◌&&◌, ◌||◌, ℕ, Bool, true, false, if◌then◌else◌, List, Option, Some, None, Result, Ok, Err, IsSomeAnd, option_map}
use Rattle.std.specs.List.{list_any, position}
use Rattle.zvt_till.specs.declared.entries.Entry.{Entry}
use Rattle.zvt_till.specs.declared.keeper.BookFault.TheVariants.{Failed, NoSpace as NoRoom}
use Rattle.zvt_till.specs.declared.keeper.Untaken.TheVariants.{Book as UntakenBook, Order as UntakenOrder}
use Rattle.zvt_till.specs.declared.orders.Order.{Order}
use Rattle.zvt_till.specs.declared.orders.Order.TheVariants.{Pay, Reverse}
use Rattle.zvt_till.specs.declared.outcomes.Outcome.{Outcome}
use Rattle.zvt_till.specs.declared.outcomes.Outcome.TheVariants.{Paid}
use Rattle.zvt_kept.specs.declared.past_orders.PastOrder.{PastOrder}
use Rattle.zvt_kept.specs.Notes.{reference_in}
use Rattle.zvt_service.specs.declared.service.Ungiven.{Ungiven}
use Rattle.zvt_service.specs.declared.service.Ungiven.TheVariants.{Known, Memory as NoMemory, Till as TillRefused}
use Rattle.zvt_service.specs.Books.{OrderIn}
use Rattle.zvt_service.specs.Fates.{fate_as}
use Rattle.zvt_serve.specs.Answers.{answer_text, event_text, outcome_status}
use Rattle.zvt_serve.specs.Troubles.{trouble_body, trouble_status}
use Rattle.zvt_serve.specs.declared.outcomes.Answer.{Answer}
use Rattle.zvt_serve.specs.declared.troubles.Trouble.{Trouble}
use Rattle.zvt_serve.specs.declared.troubles.Trouble.TheVariants.{Book, Interrupted, KeyReused, Memory, NoPayment, NoSpace, OtherBook, OtherCurrency, Refused, UnknownKey}

-- ---- facts of the book

-- the trace number of a payment that was booked
abbrev pub paid_trace : Option Outcome → Option ℕ
paid_trace (Some (Paid trace receipt)) = Some trace
paid_trace other = None

-- the first entry with this trace number
abbrev pub place_in : List Entry → (trace : ℕ) → Option ℕ
place_in book trace = position (λ e. e.trace == trace) book

-- whether an entry with this trace number was taken back
abbrev pub is_taken_back : List Entry → (trace : ℕ) → Bool
is_taken_back book trace = list_any (λ e. (e.trace == trace) && e.reversed) book

abbrev pub is_traced_back : List Entry → Option ℕ → Bool
is_traced_back book None = false
is_traced_back book (Some trace) = is_taken_back book trace

-- whether a completed reversal took this payment back
abbrev pub is_reversed : List Entry → Option Outcome → Bool
is_reversed book outcome = is_traced_back book (paid_trace outcome)

-- ---- what is asked for

abbrev pub payment : (ours amount : ℕ) → (currency : Option ℕ) → Result Order Trouble
payment ours amount None = Ok (Pay amount)
payment ours amount (Some currency) = if currency == ours then Ok (Pay amount) else Err OtherCurrency

abbrev pub reversal_at : Option ℕ → Result Order Trouble
reversal_at None = Err NoPayment
reversal_at (Some at) = Ok (Reverse at)

abbrev pub reversal_by : List Entry → (trace : Option ℕ) → Result Order Trouble
reversal_by book None = Err NoPayment
reversal_by book (Some trace) = reversal_at (place_in book trace)

-- a payment of an earlier book is reversed no more
abbrev pub unless_earlier : (allowed : Bool) → Result Order Trouble → Result Order Trouble
unless_earlier allowed (Err why) = Err why
unless_earlier allowed (Ok order) = if allowed then Ok order else Err OtherBook

-- The reversal of the payment that this order made. That of an earlier book is named only by a request whose key is
-- known, which is answered and never given.
abbrev pub reversal : (known : Bool) → Option OrderIn → Result Order Trouble
reversal known None = Err NoPayment
reversal known (Some found) = unless_earlier (found.is_own || known) (reversal_by found.entries (paid_trace found.past.outcome))

-- ---- answers

abbrev pub TellsTrouble : Trouble → Answer → Type 0
TellsTrouble trouble answer = (answer.status ≡ trouble_status trouble) × (answer.body ≡ trouble_body trouble)

-- what became of the order with this key, or that it is running
abbrev pub TellsOrder : (key : List ℕ) → OrderIn → Answer → Type 0
TellsOrder key found answer =
    let past = found.past in
    (answer.status ≡ outcome_status found.fate)
    × (answer.body ≡ answer_text (Some key) past.order found.fate (is_reversed found.entries past.outcome))

abbrev pub TellsRunning : (failed : Bool) → Option Answer → Type 0
TellsRunning true answer = IsSomeAnd answer (TellsTrouble Interrupted)
TellsRunning false answer = answer ≡ None

abbrev pub TellsEnd : (key : List ℕ) → (failed : Bool) → OrderIn → (outcome : Option Outcome) → Option Answer → Type 0
TellsEnd key failed found None answer = TellsRunning failed answer
TellsEnd key failed found (Some outcome) answer = IsSomeAnd answer (TellsOrder key found)

-- The answer for a key is what became of its own order. There is none yet while the order is running, unless the book failed.
abbrev pub TellsKey : (key : List ℕ) → (failed : Bool) → Option OrderIn → Option Answer → Type 0
TellsKey key failed None answer = IsSomeAnd answer (TellsTrouble UnknownKey)
TellsKey key failed (Some found) answer = TellsEnd key failed found found.past.outcome answer

abbrev pub TellsUnended : (key : List ℕ) → (failed : Bool) → OrderIn → Answer → Type 0
TellsUnended key true found answer = TellsTrouble Interrupted answer
TellsUnended key false found answer = TellsOrder key found answer

abbrev pub TellsSoFar : (key : List ℕ) → (failed : Bool) → OrderIn → (outcome : Option Outcome) → Answer → Type 0
TellsSoFar key failed found None answer = TellsUnended key failed found answer
TellsSoFar key failed found (Some outcome) answer = TellsOrder key found answer

-- The answer for a key now. Once the book failed, nobody learns from this till how a running order ends.
abbrev pub TellsNow : (key : List ℕ) → (failed : Bool) → Option OrderIn → Answer → Type 0
TellsNow key failed None answer = TellsTrouble UnknownKey answer
TellsNow key failed (Some found) answer = TellsSoFar key failed found found.past.outcome answer

-- ---- events

-- what listeners are told of an order that ended, if it has a key
abbrev pub event_of : PastOrder → Option (List ℕ)
event_of past = option_map (λ key. event_text key (fate_as None past.outcome)) (reference_in past.note)

-- ---- orders that were not given

abbrev pub trouble_of : Ungiven → Trouble
trouble_of Known = KeyReused
trouble_of (TillRefused (UntakenOrder why)) = Refused why
trouble_of (TillRefused (UntakenBook NoRoom)) = NoSpace
trouble_of (TillRefused (UntakenBook Failed)) = Book
trouble_of NoMemory = Memory
