-- The notes on steps: a text for each order that is unclear or was not sent.
use Rattle.std.specs.Prelude.{ℕ, ◌+◌, List, [], ◌∷◌, ◌++◌, codes, Option, Some, None, Result, Ok, Err, slice_get}
use Rattle.std.specs.Fmt.{decimal}
use Rattle.std.specs.List.{flat_map}
use Rattle.std.specs.String.{string_bytes}
use Rattle.hex.specs.Hex.{encode_upper}
use Rattle.zvt_text.specs.Numbers.{numbers_text}
use Rattle.zvt_till.specs.Names.{cause_name, cause_words, refusal_name, refusal_words}
use Rattle.zvt_till.specs.View.{TillValue}
use Rattle.zvt_till.specs.declared.entries.Entry.{Entry}
use Rattle.zvt_till.specs.declared.line.RunFault.{RunFault}
use Rattle.zvt_till.specs.declared.keeper.BookFault.TheVariants.{NoSpace, Failed}
use Rattle.zvt_till.specs.declared.line.RunFault.TheVariants.{Order, Line, Book as BookBroke}
use Rattle.zvt_till.specs.declared.numbers.Numbers.{Numbers}
use Rattle.zvt_till.specs.declared.orders.OrderRefusal.{OrderRefusal}
use Rattle.zvt_till.specs.declared.outcomes.Cause.{Cause}
use Rattle.zvt_till.specs.declared.outcomes.Outcome.{Outcome}
use Rattle.zvt_till.specs.declared.outcomes.Outcome.TheVariants.{Registered, Paid, Declined, Refused, Aborted, Unclear, Reversed, DayClosed}
use Rattle.zvt_runs.specs.declared.arguments.Step.{Step}
use Rattle.zvt_settle.specs.Names.{settlement_words}
use Rattle.zvt_settle.specs.declared.deciding.Settlement.{Settlement}
use Rattle.zvt_settle.specs.declared.deciding.Settlement.TheVariants.{Paid as PaidThen, NotPaid, Reversed as ReversedThen, NotReversed}
use Rattle.zvt_runs.specs.declared.arguments.Step.TheVariants.{Register, Pay, Reverse, CloseDay, Decline, Ask as AskStep, Settle}
use Rattle.zvt_runs.specs.declared.asking.Asked.{Asked}
use Rattle.zvt_runs.specs.declared.asking.Asked.TheVariants.{Nothing, Unsettled, Settled}
use Rattle.zvt_runs.specs.declared.asking.Ended.{Ended}
use Rattle.zvt_runs.specs.declared.asking.Ended.TheVariants.{Order as EndedOrder, Ask}
use Rattle.zvt_runs.specs.Made.{Made}
use Rattle.zvt_runs.specs.Named.{named_text}
use Rattle.zvt_runs.specs.Settlements.{counted}

-- the name of the cause, and its meaning
abbrev pub why_unclear : Cause → List ℕ
why_unclear cause = codes " is unclear (" ++ cause_name cause ++ codes ": " ++ cause_words cause ++ codes ")"

-- the numbers that the terminal named, in words
abbrev pub heard_text : Option ℕ → Option (List ℕ) → List ℕ
heard_text None None = codes ". The terminal named no trace or receipt number"
heard_text None (Some receipt) = codes ". The terminal named" ++ named_text None (Some receipt)
heard_text (Some trace) receipt = codes ". The terminal named" ++ named_text (Some trace) receipt

abbrev pub payment_note : ℕ → Cause → Numbers → List ℕ
payment_note amount cause numbers =
    codes "zvt: the payment of " ++ decimal amount ++ why_unclear cause ++ heard_text numbers.trace numbers.receipt
    ++ codes ". It may have been charged or not: look at the terminal's journal or its last receipt before you order it again\n"

-- the step that reverses the entry at this index; its number is counted from 1
abbrev pub reversing : ℕ → List ℕ
reversing place = codes "zvt: reverse:" ++ decimal (place + 1)

-- the payment of an entry
abbrev pub entry_numbers : Entry → List ℕ
entry_numbers entry = codes " (" ++ numbers_text entry.trace entry.receipt ++ codes ")"

abbrev pub of_payment : Entry → List ℕ
of_payment entry = codes " of the payment of " ++ decimal entry.amount ++ entry_numbers entry

-- the note on the unclear reversal of the entry at this index
abbrev pub reversal_note : ℕ → Entry → Cause → Numbers → List ℕ
reversal_note place entry cause numbers =
    reversing place ++ of_payment entry ++ why_unclear cause ++ heard_text numbers.trace numbers.receipt
    ++ codes ". It may have been taken back or not: look at the terminal's journal before you refund the amount\n"

abbrev pub row_note : ℕ → Option Entry → Cause → Numbers → List ℕ
row_note place None cause numbers = []
row_note place (Some entry) cause numbers = reversal_note place entry cause numbers

abbrev pub registration_note : Cause → List ℕ
registration_note cause = codes "zvt: the registration" ++ why_unclear cause ++ codes ". The terminal may be busy with another till\n"

abbrev pub closing_note : Cause → List ℕ
closing_note cause = codes "zvt: the end of day" ++ why_unclear cause ++ codes ". The terminal may have closed the day or not: look at its journal\n"

-- the note on a step whose order is unclear
abbrev pub unclear_note : Step → Cause → TillValue → List ℕ
unclear_note Register cause till = registration_note cause
unclear_note (Pay amount) cause till = payment_note amount cause till.numbers
unclear_note (Decline amount code) cause till = payment_note amount cause till.numbers
unclear_note (Reverse place) cause till = row_note place (slice_get till.state.book place) cause till.numbers
unclear_note CloseDay cause till = closing_note cause
unclear_note AskStep cause till = []
unclear_note Settle cause till = []

-- the note on an order with this outcome
abbrev pub outcome_note : Step → Outcome → TillValue → List ℕ
outcome_note step Registered till = []
outcome_note step (Paid trace receipt) till = []
outcome_note step (Declined code) till = []
outcome_note step (Refused code) till = []
outcome_note step (Aborted code) till = []
outcome_note step (Unclear cause) till = unclear_note step cause till
outcome_note step Reversed till = []
outcome_note step DayClosed till = []

-- the name of a refusal, and its meaning
abbrev pub why_unsent : OrderRefusal → List ℕ
why_unsent why = codes " (" ++ refusal_name why ++ codes "): " ++ refusal_words why ++ codes "\n"

-- the note on an order that was not sent, after the word of its step
abbrev pub unsent_note : List ℕ → OrderRefusal → List ℕ
unsent_note word why = codes "zvt: " ++ word ++ codes " was not sent" ++ why_unsent why

-- the note on an order whose records have no room in the book, after the word of its step
abbrev pub no_space_note : List ℕ → List ℕ
no_space_note word =
    codes "zvt: " ++ word ++ codes " was not sent (NoSpace): the disk of the book has no room for the records of a payment: free some space, then run the step again\n"

-- the row that was settled
abbrev pub row_settled : Settlement → List ℕ
row_settled (PaidThen row trace receipt) = counted (codes "unclear payment ") row (codes ": ")
row_settled (NotPaid row) = counted (codes "unclear payment ") row (codes ": ")
row_settled (ReversedThen entry) = counted (codes "booked payment ") entry (codes ": ")
row_settled (NotReversed entry) = counted (codes "booked payment ") entry (codes ": ")

-- what follows from a settlement
abbrev pub advice : Settlement → List ℕ
advice (PaidThen row trace receipt) = codes " as" ++ named_text (Some trace) receipt ++ codes ": do not order it again\n"
advice (NotPaid row) = codes ": you may order it again\n"
advice (ReversedThen entry) = codes ": do not refund the amount again\n"
advice (NotReversed entry) = codes ": you may reverse it again\n"

abbrev pub settlement_note : Settlement → List ℕ
settlement_note settlement = codes "zvt: " ++ row_settled settlement ++ settlement_words settlement ++ advice settlement

-- the note on an ask
abbrev pub asked_note : Asked → List ℕ
asked_note Nothing = []
asked_note Unsettled = codes "zvt: the terminal's answer does not settle the unclear order: look at the terminal's journal or its last receipt\n"
asked_note (Settled settlement) = settlement_note settlement

abbrev pub ended_note : Step → Ended → TillValue → List ℕ
ended_note step (EndedOrder outcome) till = outcome_note step outcome till
ended_note step (Ask asked) till = asked_note asked

-- the note on an order with the outcome that the till reports, if any
abbrev pub last_note : Step → Option Outcome → TillValue → List ℕ
last_note step None till = []
last_note step (Some outcome) till = outcome_note step outcome till

-- the note on a step with this result, given the till after it
abbrev pub step_note : (word : List ℕ) → Step → Result Ended RunFault → TillValue → List ℕ
step_note word step (Ok ended) till = ended_note step ended till
step_note word step (Err (Order why)) till = unsent_note word why
step_note word step (Err (Line fault)) till = last_note step till.state.last_outcome till
step_note word step (Err (BookBroke NoSpace)) till = no_space_note word
step_note word step (Err (BookBroke Failed)) till = last_note step till.state.last_outcome till

abbrev pub made_note : Made → List ℕ
made_note made = step_note (string_bytes made.planned.word) made.planned.step made.result made.till

-- the notes on steps, one after another
abbrev pub notes_text : List Made → List ℕ
notes_text all = flat_map made_note all
