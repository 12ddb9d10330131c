-- The combined meaning of the running order's statuses, and the outcome of the order.
use Rattle.std.specs.Prelude.{ℕ, Bool, cond, ◌||◌, nat_eq, List, Option, Some, None, slice_get, option_map}
use Rattle.std.specs.List.{list_any}
use Rattle.zvt_till.specs.declared.happenings.Happening.{Happening}
use Rattle.zvt_till.specs.declared.happenings.Happening.TheVariants.{Connected, Sent as SentOut, Heard as HeardIn, Malformed, Lost}
use Rattle.zvt_till.specs.declared.orders.Order.{Order}
use Rattle.zvt_till.specs.declared.orders.Order.TheVariants.{Register as RegisterOrder, Pay as PayOrder, Reverse as ReverseOrder, CloseDay as CloseDayOrder, Cancel as CancelOrder}
use Rattle.zvt_till.specs.declared.messages.Heard.TheVariants.{Positive, Negative, Status, Passing, Completion, Abort, Strange}
use Rattle.zvt_till.specs.declared.messages.StatusFacts.{StatusFacts}
use Rattle.zvt_till.specs.declared.statuses.Statuses.{Statuses}
use Rattle.zvt_till.specs.declared.statuses.Statuses.TheVariants.{Nothing, Good as AllGood, Declining as AllDeclining, Fault}
use Rattle.zvt_till.specs.declared.statuses.Running.{Running}
use Rattle.zvt_till.specs.declared.entries.Entry.{Entry}
use Rattle.zvt_till.specs.declared.settings.Rules.{Rules}
use Rattle.zvt_till.specs.declared.outcomes.Cause.{Cause}
use Rattle.zvt_till.specs.declared.outcomes.Cause.TheVariants.{NoStatus, Conflict, NoTrace, TraceUsed, AbortAfterApproval, Line, Malformed as MalformedCause, Unfinished}
use Rattle.zvt_till.specs.declared.outcomes.Outcome.{Outcome}
use Rattle.zvt_till.specs.declared.outcomes.Outcome.TheVariants.{Registered, Paid, Declined, Refused, Aborted, Unclear, Reversed, DayClosed}
use Rattle.zvt_till.specs.ByReceipt.{sole_receipt}
use Rattle.zvt_till.specs.Statuses.{Charge, Demand, Payment, Reversal, Closing, Class, Good, Declining, Doubtful, class_of, same_trace}
use Rattle.zvt_till.specs.Segments.{is_positive, status_of}

-- the amount and currency that the statuses of an order must confirm, given the currency in force
abbrev pub charged : Option ℕ → ℕ → Charge
charged currency amount = record { amount = amount; currency = currency }

-- the values with which the statuses of an order must agree, by the till's rules; a registration has none
abbrev pub demand_of : Rules → Option ℕ → List Entry → List (ℕ × Cause) → Order → Option Demand
demand_of rules currency book unclear RegisterOrder = None
demand_of rules currency book unclear (PayOrder a) = Some (Payment (charged currency a))
demand_of rules currency book unclear (ReverseOrder e) =
    option_map (λ row. Reversal (charged currency row.amount) row.trace (sole_receipt rules.reversal_by_receipt book unclear row)) (slice_get book e)
demand_of rules currency book unclear CloseDayOrder = Some (Closing rules.close_by_completion)
demand_of rules currency book unclear CancelOrder = None

-- one more status
abbrev pub note_class : Statuses → Class → Option (List ℕ) → Statuses
note_class Nothing (Good t) receipt = AllGood t receipt
note_class Nothing (Declining c) receipt = AllDeclining c
note_class Nothing (Doubtful cause) receipt = Fault cause
note_class (AllGood t first) (Good u) receipt = cond (same_trace u t) (AllGood t first) (Fault Conflict)
note_class (AllGood t first) (Declining c) receipt = Fault Conflict
note_class (AllGood t first) (Doubtful cause) receipt = Fault cause
note_class (AllDeclining c) (Good t) receipt = Fault Conflict
note_class (AllDeclining c) (Declining d) receipt = AllDeclining c
note_class (AllDeclining c) (Doubtful cause) receipt = Fault cause
note_class (Fault cause) (Good t) receipt = Fault cause
note_class (Fault cause) (Declining c) receipt = Fault cause
note_class (Fault cause) (Doubtful other) receipt = Fault cause

abbrev pub note : Option Demand → Statuses → StatusFacts → Statuses
note None so_far s = so_far
note (Some d) so_far s = note_class so_far (class_of d s) s.receipt

abbrev pub note_if : Option Demand → Statuses → Option StatusFacts → Statuses
note_if d so_far None = so_far
note_if d so_far (Some s) = note d so_far s

-- some entry of the book has this trace
abbrev pub trace_used : ℕ → List Entry → Bool
trace_used t book = list_any (λ row. nat_eq row.trace t) book

-- a completed payment
abbrev pub payment_outcome : List Entry → Statuses → Outcome
payment_outcome book Nothing = Unclear NoStatus
payment_outcome book (AllGood None receipt) = Unclear NoTrace
payment_outcome book (AllGood (Some t) receipt) = cond (trace_used t book) (Unclear TraceUsed) (Paid t receipt)
payment_outcome book (AllDeclining c) = Declined c
payment_outcome book (Fault cause) = Unclear cause

-- a completed reversal
abbrev pub reversal_outcome : Statuses → Outcome
reversal_outcome Nothing = Unclear NoStatus
reversal_outcome (AllGood t receipt) = Reversed
reversal_outcome (AllDeclining c) = Declined c
reversal_outcome (Fault cause) = Unclear cause

-- a completed end of day, which needs no status
abbrev pub closing_outcome : Statuses → Outcome
closing_outcome Nothing = DayClosed
closing_outcome (AllGood t receipt) = DayClosed
closing_outcome (AllDeclining c) = Declined c
closing_outcome (Fault cause) = Unclear cause

-- an order that was completed
abbrev pub completion_outcome : List Entry → Order → Statuses → Outcome
completion_outcome book RegisterOrder so_far = Registered
completion_outcome book (PayOrder a) so_far = payment_outcome book so_far
completion_outcome book (ReverseOrder e) so_far = reversal_outcome so_far
completion_outcome book CloseDayOrder so_far = closing_outcome so_far
-- Cancel never runs
completion_outcome book CancelOrder so_far = closing_outcome so_far

-- an order that was broken off: it certainly did not happen if all statuses were declines
abbrev pub broken_outcome : Statuses → Outcome → Outcome
broken_outcome Nothing outcome = outcome
broken_outcome (AllGood t receipt) outcome = Unclear AbortAfterApproval
broken_outcome (AllDeclining c) outcome = outcome
broken_outcome (Fault cause) outcome = Unclear AbortAfterApproval

-- the outcome of an order, by the event that ended it
abbrev pub outcome_by : List Entry → Order → Statuses → Happening → Outcome
outcome_by book order so_far (HeardIn Completion) = completion_outcome book order so_far
outcome_by book order so_far (HeardIn (Abort c)) = broken_outcome so_far (Aborted c)
outcome_by book order so_far (HeardIn (Negative c)) = broken_outcome so_far (Refused c)
outcome_by book order so_far Lost = Unclear Line
outcome_by book order so_far Malformed = Unclear MalformedCause
-- nothing else ends an order
outcome_by book order so_far Connected = Unclear Unfinished
outcome_by book order so_far (SentOut o) = Unclear Unfinished
outcome_by book order so_far (HeardIn Positive) = Unclear Unfinished
outcome_by book order so_far (HeardIn (Status s)) = Unclear Unfinished
outcome_by book order so_far (HeardIn Passing) = Unclear Unfinished
outcome_by book order so_far (HeardIn Strange) = Unclear Unfinished

-- the running order after an event that does not end it
abbrev pub listened : Option Demand → Running → Happening → Running
listened d r h =
    record {
      order = r.order;
      positive = r.positive || is_positive h;
      statuses = note_if d r.statuses (status_of h);
    }
