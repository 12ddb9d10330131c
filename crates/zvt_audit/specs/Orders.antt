-- Which sides of the line sent a till's orders.
use Rattle.std.specs.Prelude.{Bool, true, false, not, ◌&&◌, ◌||◌, List}
use Rattle.std.specs.List.{list_any}
use Rattle.zvt_apdu.specs.Kinds.{kind_of}
use Rattle.zvt_apdu.specs.declared.kinds.Kind.{Kind}
use Rattle.zvt_apdu.specs.declared.kinds.Kind.TheVariants as kind
use Rattle.zvt_trace.specs.TraceEvent.{At, TraceEvent}
use Rattle.zvt_trace.specs.TraceEvent as trace_event
use Rattle.zvt_trace.specs.declared.direction.Direction.{Direction}
use Rattle.zvt_trace.specs.declared.direction.Direction.TheVariants.{FromTill, FromTerminal}
use Rattle.zvt_audit.specs.declared.orders.Orders.{Orders}

-- the kinds of the messages that give an order, which only a till sends
abbrev pub is_order : Kind → Bool
is_order kind.Ack = false
is_order kind.Nack = false
is_order kind.Registration = true
is_order kind.Authorisation = true
is_order kind.Reversal = true
is_order kind.EndOfDay = true
is_order kind.AbortOrder = true
is_order kind.Status = false
is_order kind.Intermediate = false
is_order kind.PrintLine = false
is_order kind.TextBlock = false
is_order kind.Completion = false
is_order kind.Abort = false
is_order kind.Other = false

abbrev pub ordered_from : (side from : Direction) → Kind → Bool
ordered_from FromTill FromTill kind = is_order kind
ordered_from FromTill FromTerminal kind = false
ordered_from FromTerminal FromTill kind = false
ordered_from FromTerminal FromTerminal kind = is_order kind

-- the event is an order from that side
abbrev pub is_order_from : Direction → TraceEvent → Bool
is_order_from side (trace_event.message from m) = ordered_from side from (kind_of m)
is_order_from side (trace_event.refused from before byte why) = false
is_order_from side (trace_event.unread from) = false
is_order_from side (trace_event.resumed from size) = false
is_order_from side (trace_event.cut_off from bytes) = false
is_order_from side trace_event.lost = false

abbrev pub orders_from : Direction → List At → Bool
orders_from side events = list_any (λ (event : At). is_order_from side event.trace_event) events

-- no order came from where the till is said to be, and one from where the terminal is
abbrev pub are_swapped : List At → Bool
are_swapped events = not (orders_from FromTill events) && orders_from FromTerminal events

-- what was noticed, with one thing more
abbrev pub noticed : Orders → TraceEvent → Orders
noticed orders event = record { till = orders.till || is_order_from FromTill event; terminal = orders.terminal || is_order_from FromTerminal event }

-- the same for a message of this kind from that side
abbrev pub noticed_kind : Orders → Direction → Kind → Orders
noticed_kind orders from kind = record { till = orders.till || ordered_from FromTill from kind; terminal = orders.terminal || ordered_from FromTerminal from kind }
