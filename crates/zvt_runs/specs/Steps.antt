-- The order of a step, the terminal's decision on it, and whether a step asks.
use Rattle.std.specs.Prelude.{◌&&◌, ◌||◌, not, Bool, true, Option, None, Some, is_some}
use Rattle.zvt_till.specs.declared.orders.Order.{Order}
use Rattle.zvt_till.specs.declared.orders.Order.TheVariants.{Register as RegisterOrder, Pay as PayOrder, Reverse as ReverseOrder, CloseDay as CloseDayOrder}
use Rattle.zvt_settle.specs.Settling.{Both}
use Rattle.zvt_term.specs.declared.turns.Verdict.{Verdict}
use Rattle.zvt_term.specs.declared.turns.Verdict.TheVariants.{Approve, Decline as Declines}
use Rattle.zvt_runs.specs.declared.arguments.Step.{Step}
use Rattle.zvt_runs.specs.declared.arguments.Step.TheVariants.{Register, Pay, Reverse, CloseDay, Decline, Ask, Settle}

-- a step that asks gives no order
abbrev pub order_of : Step → Option Order
order_of Register = Some RegisterOrder
order_of (Pay amount) = Some (PayOrder amount)
order_of (Reverse entry) = Some (ReverseOrder entry)
order_of CloseDay = Some CloseDayOrder
order_of (Decline amount code) = Some (PayOrder amount)
order_of Ask = None
order_of Settle = None

-- the terminal approves unless the step declines
abbrev pub verdict_of : Step → Verdict
verdict_of Register = Approve
verdict_of (Pay amount) = Approve
verdict_of (Reverse entry) = Approve
verdict_of CloseDay = Approve
verdict_of (Decline amount code) = Declines code
verdict_of Ask = Approve
verdict_of Settle = Approve

-- An answer can be of use to a registered till: it may settle a pending order, or tell the terminal's last transaction.
abbrev pub is_useful : Both → Bool
is_useful b = b.till.registered && (is_some b.settling.pending || not (is_some b.settling.last))

-- whether a step that gives no order asks
abbrev pub wants_answer : Step → Both → Bool
wants_answer Settle b = is_useful b
wants_answer _ b = true
