-- A till as contracts see it.
use Rattle.std.specs.Prelude.{◌≡◌, ◌⊎◌, ℕ, ◌-◌, ◌<◌, ◌≤◌, false, List, [], ◌∷◌, ◌++◌, Option, Some, None}
use Rattle.zvt_till.specs.declared.entries.Entry.{Entry}
use Rattle.zvt_till.specs.declared.numbers.Numbers.{Numbers}
use Rattle.zvt_till.specs.declared.orders.Order.{Order}
use Rattle.zvt_till.specs.declared.orders.Order.TheVariants.{Register, Pay, Reverse, CloseDay, Cancel}
use Rattle.zvt_till.specs.declared.orders.OrderRefusal.{OrderRefusal}
use Rattle.zvt_till.specs.declared.orders.OrderRefusal.TheVariants.{Memory}
use Rattle.zvt_till.specs.declared.outcomes.Cause.{Cause}
use Rattle.zvt_till.specs.declared.outcomes.Outcome.{Outcome}
use Rattle.zvt_till.specs.declared.outcomes.Outcome.TheVariants.{Paid}
use Rattle.zvt_till.specs.declared.statuses.Running.{Running}
use Rattle.zvt_till.specs.Outcomes.{trace_used}
use Rattle.zvt_till.specs.Refusals.{Facts, refusal, most_rows}
use Rattle.zvt_till.specs.Till.{TillState}

-- the state, the number of payments that can certainly be recorded without allocating, the numbers that the terminal
-- named for the last order, and the numbers that it named for each unclear payment, row by row
pub record TillValue : Type 0 where
  pub state : TillState
  pub spare : ℕ
  pub numbers : Numbers
  pub heard : List Numbers

-- an order is refused for the first reason that applies; running out of memory comes last, for a payment without
-- capacity
abbrev pub IsRefusedAs : Facts → ℕ → Order → OrderRefusal → Type 0
IsRefusedAs f spare (Pay a) Memory = (refusal f (Pay a) ≡ None) × (spare ≡ 0)
IsRefusedAs f spare Register why = refusal f Register ≡ Some why
IsRefusedAs f spare (Pay a) why = refusal f (Pay a) ≡ Some why
IsRefusedAs f spare (Reverse e) why = refusal f (Reverse e) ≡ Some why
IsRefusedAs f spare CloseDay why = refusal f CloseDay ≡ Some why
IsRefusedAs f spare Cancel why = refusal f Cancel ≡ Some why

-- a running order can be ended: there is room for its payment in both lists, and an entry for its reversal
abbrev pub CanEnd : Order → ℕ → ℕ → ℕ → Type 0
CanEnd Register booked unclear spare = Unit {0}
CanEnd (Pay a) booked unclear spare = (0 < spare) × (booked < most_rows) × (unclear < most_rows)
CanEnd (Reverse e) booked unclear spare = e < booked
CanEnd CloseDay booked unclear spare = Unit {0}
CanEnd Cancel booked unclear spare = Unit {0}

abbrev pub CanEndRunning : Option Running → ℕ → ℕ → ℕ → Type 0
CanEndRunning None booked unclear spare = Unit {0}
CanEndRunning (Some r) booked unclear spare = CanEnd r.order booked unclear spare

-- the book can record the outcome of an order: the trace number of a payment belongs to no entry
abbrev pub CanBook : Outcome → List Entry → Type 0
CanBook (Paid trace receipt) book = trace_used trace book ≡ false
CanBook _ book = Unit {0}

-- the rows that an order may add: a payment adds one, in the book or in the list of unclear payments
abbrev pub claimed_by : Order → ℕ
claimed_by Register = 0
claimed_by (Pay a) = 1
claimed_by (Reverse e) = 0
claimed_by CloseDay = 0
claimed_by Cancel = 0

abbrev pub claimed : Option Running → ℕ
claimed None = 0
claimed (Some r) = claimed_by r.order

-- the number of payments besides the running one that can certainly be recorded without allocating
abbrev pub unclaimed : TillValue → ℕ
unclaimed till = till.spare - claimed till.state.running

-- no capacity is lost: a message uses at most the row that the running payment has reserved
abbrev pub KeepsRoom : TillValue → TillValue → Type 0
KeepsRoom old new = unclaimed old ≤ unclaimed new

-- No payment became unclear, and the numbers named for the unclear payments are the same. Or one became unclear: it
-- comes last, with the numbers of its order.
abbrev pub KeepsHeard : TillValue → TillValue → Type 0
KeepsHeard old new =
    ((new.state.unclear ≡ old.state.unclear) × (new.heard ≡ old.heard))
    ⊎ ((row : ℕ × Cause) × (new.state.unclear ≡ old.state.unclear ++ row ∷ []) × (new.heard ≡ old.heard ++ new.numbers ∷ []))
