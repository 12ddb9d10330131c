-- The steps that were made, their lines, and whether one of them did not succeed.
use Rattle.std.specs.Prelude.{◌==◌, not, ℕ, Bool, true, false, cond, List, [], Option, Some, None, Result, Ok, Err, option_map}
use Rattle.std.specs.List.{flat_map, list_any}
use Rattle.std.specs.String.{string_bytes}
use Rattle.zvt_text.specs.declared.form.Form.{Form}
use Rattle.zvt_till.specs.View.{TillValue}
use Rattle.zvt_till.specs.declared.line.RunFault.{RunFault}
use Rattle.zvt_till.specs.declared.line.RunFault.TheVariants.{Order, Line, Book as BookBroke}
use Rattle.zvt_till.specs.declared.orders.Order.{Order as OrderGiven}
use Rattle.zvt_till.specs.declared.orders.OrderRefusal.{OrderRefusal}
use Rattle.zvt_till.specs.declared.orders.OrderRefusal.TheVariants.{Memory as NoMemory}
use Rattle.zvt_till.specs.declared.outcomes.Outcome.{Outcome}
use Rattle.zvt_till.specs.declared.outcomes.Outcome.TheVariants.{Registered, Paid, Declined, Aborted, Reversed, DayClosed}
use Rattle.zvt_runs.specs.declared.fault.EndFault.{EndFault}
use Rattle.zvt_runs.specs.declared.fault.EndFault.TheVariants.{Book, Line as LineBroke}
use Rattle.zvt_runs.specs.declared.plans.Planned.{Planned}
use Rattle.zvt_runs.specs.declared.arguments.Step.{Step}
use Rattle.zvt_runs.specs.declared.arguments.Step.TheVariants.{Register, Pay, Reverse, CloseDay, Decline, Ask as AskStep, Settle}
use Rattle.zvt_runs.specs.declared.asking.Asked.{Asked}
use Rattle.zvt_runs.specs.declared.asking.Asked.TheVariants.{Nothing, Unsettled, Settled}
use Rattle.zvt_runs.specs.declared.asking.Ended.{Ended}
use Rattle.zvt_runs.specs.declared.asking.Ended.TheVariants.{Order as EndedOrder, Ask}
use Rattle.zvt_runs.specs.Objects.{step_line}
use Rattle.zvt_runs.specs.Steps.{order_of}

-- a step, its result, and the till after it
pub record Made : Type 0 where
  pub planned : Planned
  pub result : Result Ended RunFault
  pub till : TillValue

-- why no further step is made, if so: the line broke, or the book could not be kept
abbrev pub stop_of : Result Ended RunFault → Option EndFault
stop_of (Ok ended) = None
stop_of (Err (Order why)) = None
stop_of (Err (Line fault)) = Some (LineBroke fault)
stop_of (Err (BookBroke why)) = Some Book

-- the order or ask was not sent because memory ran out
abbrev pub is_memory : OrderRefusal → Bool
is_memory NoMemory = true
is_memory _ = false

abbrev pub wants_memory : Result Ended RunFault → Bool
wants_memory (Ok ended) = false
wants_memory (Err (Order why)) = is_memory why
wants_memory (Err (Line fault)) = false
wants_memory (Err (BookBroke why)) = false

-- The order of a step had the intended outcome. A payment to be declined ended with the intended code.
abbrev pub succeeded_as : Step → Outcome → Bool
succeeded_as Register Registered = true
succeeded_as Register _ = false
succeeded_as (Pay amount) (Paid trace receipt) = true
succeeded_as (Pay amount) _ = false
succeeded_as (Reverse entry) Reversed = true
succeeded_as (Reverse entry) _ = false
succeeded_as CloseDay DayClosed = true
succeeded_as CloseDay _ = false
succeeded_as (Decline amount code) (Declined told) = told == code
succeeded_as (Decline amount code) (Aborted told) = told == code
succeeded_as (Decline amount code) _ = false
succeeded_as AskStep outcome = false
succeeded_as Settle outcome = false

-- an ask that left no pending order unsettled, and any ask that is made only if it is of use
abbrev pub answered : Step → Asked → Bool
answered AskStep Unsettled = false
answered AskStep _ = true
answered Settle asked = true
answered _ _ = false

abbrev pub succeeded : Step → Ended → Bool
succeeded step (EndedOrder outcome) = succeeded_as step outcome
succeeded step (Ask asked) = answered step asked

-- a step did not succeed: it was not made, came to something else, or was cut off
abbrev pub fell_short : Step → Result Ended RunFault → Bool
fell_short step (Ok ended) = not (succeeded step ended)
fell_short step (Err fault) = true

-- one of the steps did not succeed
abbrev pub some_short : List Made → Bool
some_short all = list_any (λ made. fell_short made.planned.step made.result) all

-- what a step came to that was cut off: its order had the outcome that the till reports, or its ask settled nothing
abbrev pub cut_off_as : Option OrderGiven → Option Outcome → Option Ended
cut_off_as None last = Some (Ask Unsettled)
cut_off_as (Some order) last = option_map EndedOrder last

abbrev pub last_end : Step → Option Outcome → Option Ended
last_end step last = cut_off_as (order_of step) last

-- an ask that is made only if it is of use has a line only if it settles an order
abbrev pub is_silent : Step → Result Ended RunFault → Bool
is_silent Settle (Ok (Ask (Settled settlement))) = false
is_silent Settle (Ok ended) = true
is_silent _ _ = false

-- the line of a step
abbrev pub line_of : Form → (word : List ℕ) → Step → Result Ended RunFault → (last : Option Outcome) → List ℕ
line_of form word step result last = cond (is_silent step result) [] (step_line form word result (last_end step last))

abbrev pub made_line : Form → Made → List ℕ
made_line form made = line_of form (string_bytes made.planned.word) made.planned.step made.result made.till.state.last_outcome

abbrev pub made_lines : Form → List Made → List ℕ
made_lines form all = flat_map (made_line form) all
