-- The numbers that a terminal names in the status information of an order.
use Rattle.std.specs.Prelude.{cond, Option, Some, None}
use Rattle.zvt_till.specs.declared.happenings.Happening.{Happening}
use Rattle.zvt_till.specs.declared.happenings.Happening.TheVariants.{Connected, Sent as SentOut, Heard as HeardIn, Malformed, Lost}
use Rattle.zvt_till.specs.declared.messages.StatusFacts.{StatusFacts}
use Rattle.zvt_till.specs.declared.numbers.Numbers.{Numbers}
use Rattle.zvt_till.specs.declared.orders.Order.{Order}
use Rattle.zvt_till.specs.declared.orders.Order.TheVariants.{Register, Pay, Reverse, CloseDay, Cancel}
use Rattle.zvt_till.specs.declared.statuses.Running.{Running}
use Rattle.zvt_till.specs.Refusals.{order_in}
use Rattle.zvt_till.specs.Segments.{status_of}
use Rattle.zvt_till.specs.Till.{TillState}

abbrev pub no_numbers : Numbers
no_numbers = record { trace = None; receipt = None }

-- the number named last
abbrev pub last_named : {A : Type 0} → Option A → Option A → Option A
last_named before None = before
last_named before (Some named) = Some named

-- the numbers, updated by one more status if the event is one
abbrev pub with_status : Numbers → Option StatusFacts → Numbers
with_status numbers None = numbers
with_status numbers (Some s) = record { trace = last_named numbers.trace s.trace; receipt = last_named numbers.receipt s.receipt }

-- a status is of the order that runs, if one does
abbrev pub with_status_of : Option Running → Numbers → Option StatusFacts → Numbers
with_status_of None numbers status = numbers
with_status_of (Some running) numbers status = with_status numbers status

-- an order begins without any; Cancel begins none
abbrev pub numbers_begun : Numbers → Order → Numbers
numbers_begun numbers Register = no_numbers
numbers_begun numbers (Pay a) = no_numbers
numbers_begun numbers (Reverse e) = no_numbers
numbers_begun numbers CloseDay = no_numbers
numbers_begun numbers Cancel = numbers

-- The numbers of the order that began last, after one more thing that happens to a till in this state.
abbrev pub numbers_after : TillState → Numbers → Happening → Numbers
numbers_after s numbers Connected = numbers
numbers_after s numbers (SentOut o) = elim (order_in o) [ None ↦ numbers | Some order ↦ numbers_begun numbers order ]
numbers_after s numbers (HeardIn m) = cond s.line_up (with_status_of s.running numbers (status_of (HeardIn m))) numbers
numbers_after s numbers Malformed = numbers
numbers_after s numbers Lost = numbers
