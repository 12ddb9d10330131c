-- The effect of a caller's order on a till.
use Rattle.std.specs.Prelude.{◌≡◌, ◌==◌, ◌&&◌, nat_le, ℕ, cond, List, Option, Some, None, is_some, MatchOption}
use Rattle.zvt_apdu.specs.Briefs.{message_of_brief, PutsMessage}
use Rattle.zvt_till.specs.declared.orders.Order.{Order}
use Rattle.zvt_till.specs.declared.orders.Order.TheVariants.{Register, Pay, Reverse, CloseDay, Cancel}
use Rattle.zvt_till.specs.declared.orders.OrderRefusal.{OrderRefusal}
use Rattle.zvt_till.specs.declared.orders.OrderRefusal.TheVariants.{Offline, NotRegistered, Busy, NothingToCancel, BookFull, UnknownEntry, AlreadyReversed, NoReceipt, Memory}
use Rattle.zvt_till.specs.declared.orders.Outgoing.{Outgoing}
use Rattle.zvt_till.specs.Refusals.{refusal}
use Rattle.zvt_till.specs.Sending.{message_of}
use Rattle.zvt_till.specs.Till.{accept, facts_of}
use Rattle.zvt_settle.specs.Inside.{both_of, settling_of}
use Rattle.zvt_settle.specs.Settling.{sent as settling_sent, IsOrderRefusal}
use Rattle.zvt_c.specs.declared.session.Session.{Session}
use Rattle.zvt_c.specs.declared.numbers.ZvtStep.{ZvtStep}
use Rattle.zvt_c.specs.Cards.{ordered_card}
use Rattle.zvt_c.specs.Numbers.{nothing, only_sends}
use Rattle.zvt_c.specs.Statuses as statuses

-- The payment of this amount, if a message can hold it.
abbrev pub payment_of : ℕ → Option Order
payment_of number = cond (nat_le 1 number && nat_le number 999999999999) (Some (Pay number)) None

-- The order that two numbers name.
abbrev pub order_named : (kind number : ℕ) → Option Order
order_named kind number =
    cond (kind == 1) (Some Register) (cond (kind == 2) (payment_of number) (cond (kind == 3) (Some (Reverse number)) (cond (kind == 4) (Some CloseDay) (cond (kind == 5) (Some Cancel) None))))

-- The status of a refused order.
abbrev pub status_of : OrderRefusal → ℕ
status_of Offline = statuses.offline
status_of NotRegistered = statuses.not_registered
status_of Busy = statuses.busy
status_of NothingToCancel = statuses.nothing_to_cancel
status_of BookFull = statuses.book_full
status_of UnknownEntry = statuses.unknown_entry
status_of AlreadyReversed = statuses.already_reversed
status_of NoReceipt = statuses.no_receipt
status_of Memory = statuses.no_memory

-- An order is sent while no ask runs: its message is at the start of the buffer, the order is running, and the answer
-- contains only the message's size. Or the order is refused: nothing changes, and the answer is empty.
pub data OrdersEnd (before : Session) (order : Order) (after : Session) (buffer_before buffer_after : List ℕ) (answer : ZvtStep) (status : ℕ) : Type 0 where
  sent : (message : Outgoing) → refusal (facts_of before.till.till.state) order ≡ None → before.till.asking ≡ None → message_of before.till.till.state.settings before.till.till.state.book order ≡ Some message
      → both_of after.till ≡ record { till = accept before.till.till.state order; settling = settling_sent (settling_of before.till) order } → after.stream ≡ before.stream → after.card ≡ ordered_card order before.card
      → PutsMessage (message_of_brief message.brief) buffer_before buffer_after answer.send → answer ≡ only_sends answer.send → status ≡ statuses.ok → OrdersEnd before order after buffer_before buffer_after answer status
  refused : (why : OrderRefusal) → IsOrderRefusal before.till.asking (facts_of before.till.till.state) before.till.till.spare order why → after ≡ before → buffer_after ≡ buffer_before → answer ≡ nothing → status ≡ status_of why
      → OrdersEnd before order after buffer_before buffer_after answer status

-- A handle is given an order by two numbers. If they name none, or if the handle is closed, nothing changes, and the
-- answer is empty.
abbrev pub OrdersHandle : Option Session → (kind number : ℕ) → Option Session → (buffer_before buffer_after : List ℕ) → ZvtStep → (status : ℕ) → Type 0
OrdersHandle None kind number after buffer_before buffer_after answer status =
    (after ≡ None) × (buffer_after ≡ buffer_before) × (answer ≡ nothing)
    × (status ≡ cond (is_some (order_named kind number)) statuses.closed statuses.argument)
OrdersHandle (Some before) kind number after buffer_before buffer_after answer status =
    MatchOption (order_named kind number) ((after ≡ Some before) × (buffer_after ≡ buffer_before) × (answer ≡ nothing) × (status ≡ statuses.argument))
    (λ order. (end : Session) × (after ≡ Some end) × OrdersEnd before order end buffer_before buffer_after answer status)
