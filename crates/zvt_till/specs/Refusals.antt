-- The orders that a till accepts, in terms of what is known of it from outside.
use Rattle.std.specs.Prelude.{ℕ, Bool, cond, ◌&&◌, nat_lt, List, length, Option, Some, None, slice_get}
use Rattle.zvt_till.specs.declared.happenings.Sent.{Sent}
use Rattle.zvt_till.specs.declared.happenings.Sent.TheVariants.{Register, Pay, Reverse, CloseDay, Cancel, Foreign}
use Rattle.zvt_till.specs.declared.orders.Order.{Order}
use Rattle.zvt_till.specs.declared.orders.Order.TheVariants.{Register as RegisterOrder, Pay as PayOrder, Reverse as ReverseOrder, CloseDay as CloseDayOrder, Cancel as CancelOrder}
use Rattle.zvt_till.specs.declared.orders.OrderRefusal.{OrderRefusal}
use Rattle.zvt_till.specs.declared.orders.OrderRefusal.TheVariants.{Offline, NotRegistered, Busy, NothingToCancel, BookFull, UnknownEntry, AlreadyReversed, NoReceipt}
use Rattle.zvt_till.specs.declared.entries.Entry.{Entry}
use Rattle.zvt_till.specs.declared.outcomes.Cause.{Cause}

-- the running order, and whether the terminal has accepted it
pub record Awaited : Type 0 where
  pub order : Sent
  pub positive : Bool

pub record Facts : Type 0 where
  pub line_up : Bool
  pub registered : Bool
  pub awaited : Option Awaited
  pub book : List Entry
  pub unclear : List (ℕ × Cause)

-- the order of a till of this currency
abbrev pub sent_as : ℕ → Order → Sent
sent_as own RegisterOrder = Register (Some own)
sent_as own (PayOrder a) = Pay a
sent_as own (ReverseOrder e) = Reverse e
sent_as own CloseDayOrder = CloseDay
sent_as own CancelOrder = Cancel

abbrev pub order_in : Sent → Option Order
order_in (Register c) = Some RegisterOrder
order_in (Pay a) = Some (PayOrder a)
order_in (Reverse e) = Some (ReverseOrder e)
order_in CloseDay = Some CloseDayOrder
order_in Cancel = Some CancelOrder
order_in Foreign = None

-- an order runs
abbrev pub busy_refusal : Option Awaited → Option OrderRefusal
busy_refusal None = None
busy_refusal (Some a) = Some Busy

-- there is no order to cancel that the terminal has accepted
abbrev pub cancel_refusal : Option Awaited → Option OrderRefusal
cancel_refusal None = Some NothingToCancel
cancel_refusal (Some a) = cond a.positive None (Some NothingToCancel)

abbrev pub idle_refusal : Facts → Option OrderRefusal
idle_refusal f = cond f.registered (busy_refusal f.awaited) (Some NotRegistered)

abbrev pub session_refusal : Facts → Order → Option OrderRefusal
session_refusal f RegisterOrder = busy_refusal f.awaited
session_refusal f (PayOrder a) = idle_refusal f
session_refusal f (ReverseOrder e) = idle_refusal f
session_refusal f CloseDayOrder = idle_refusal f
session_refusal f CancelOrder = cancel_refusal f.awaited

-- by the line and the running order alone
abbrev pub line_refusal : Facts → Order → Option OrderRefusal
line_refusal f order = cond f.line_up (session_refusal f order) (Some Offline)

abbrev pub most_rows : ℕ
most_rows = 10000

-- a list is full
abbrev pub capacity_refusal : Facts → Option OrderRefusal
capacity_refusal f = cond (nat_lt (length f.book) most_rows && nat_lt (length f.unclear) most_rows) None (Some BookFull)

-- the entry does not exist, was reversed, or has no receipt number
abbrev pub row_refusal : Option Entry → Option OrderRefusal
row_refusal None = Some UnknownEntry
row_refusal (Some row) = cond row.reversed (Some AlreadyReversed) (elim row.receipt [ None ↦ Some NoReceipt | Some r ↦ None ])

-- the refusal, by the kind of the order
abbrev pub asked_refusal : Facts → Order → Option OrderRefusal
asked_refusal f RegisterOrder = None
asked_refusal f (PayOrder a) = capacity_refusal f
asked_refusal f (ReverseOrder e) = row_refusal (slice_get f.book e)
asked_refusal f CloseDayOrder = None
asked_refusal f CancelOrder = None

abbrev pub or_else : Option OrderRefusal → Option OrderRefusal → Option OrderRefusal
or_else None next = next
or_else (Some why) next = Some why

-- the first refusal that applies, apart from running out of memory
abbrev pub refusal : Facts → Order → Option OrderRefusal
refusal f order = or_else (line_refusal f order) (asked_refusal f order)
