-- The messages and the kinds of orders in a report.
use Rattle.std.specs.Prelude.{◌≡◌, ℕ, ◌==◌, cond, List, [], ◌∷◌, Some, None, slice_get, refl}
use Rattle.std.specs.List.{list_any}
use Rattle.zvt_till.specs.declared.happenings.Sent.{Sent}
use Rattle.zvt_till.specs.declared.happenings.Sent.TheVariants.{Register, Pay, Reverse, CloseDay, Cancel, Foreign}
use Rattle.zvt_report.specs.declared.kinds.OrderKind.{OrderKind}
use Rattle.zvt_report.specs.declared.kinds.OrderKind.TheVariants.{Payment, Reversal, OtherMoney, Close, Plain}
use Rattle.zvt_report.specs.declared.rows.OrderMessage.{OrderMessage}
use Rattle.zvt_report.specs.declared.rows.OrderRow.{OrderRow}

-- The second control byte, after 06, of the orders that move money and that the book does not follow: a payment without exactly one
-- amount, 04, 09, 0A, the orders of a pre-authorisation, and a refund
abbrev pub money_orders : List ℕ
money_orders = 0x01 ∷ 0x04 ∷ 0x09 ∷ 0x0A ∷ 0x21 ∷ 0x22 ∷ 0x23 ∷ 0x24 ∷ 0x25 ∷ 0x31 ∷ []

-- an order that the book does not know, by its control bytes
abbrev pub foreign_kind : (high low : ℕ) → OrderKind
foreign_kind high low = cond (high == 0x06) (cond (low == 0x30) Reversal (cond (list_any (λ (byte : ℕ). low == byte) money_orders) OtherMoney Plain)) Plain

-- an order, by its control bytes if the book does not know it
abbrev pub kind_of : Sent → (high low : ℕ) → OrderKind
kind_of (Register c) high low = Plain
kind_of (Pay a) high low = Payment
kind_of (Reverse e) high low = Reversal
kind_of CloseDay high low = Close
kind_of Cancel high low = Plain
kind_of Foreign high low = foreign_kind high low

-- ---- orders with their messages

-- the message of an order that has none
abbrev pub no_message : OrderMessage
no_message = record { high = 0; low = 0; amount = None; receipt = None }

abbrev pub message_at : List OrderMessage → (place : ℕ) → OrderMessage
message_at messages place = elim (slice_get messages place) [ None ↦ no_message | Some message ↦ message ]

-- the kind of the order with this row, which stands at this place
abbrev pub kind_at : List OrderMessage → (place : ℕ) → OrderRow → OrderKind
kind_at messages place row = kind_of row.order (message_at messages place).high (message_at messages place).low

-- ---- rows worked by hand

a_refund : kind_of Foreign 0x06 0x31 ≡ OtherMoney
a_refund = refl

-- a reversal of a payment that is not in the trace
an_unknown_reversal : kind_of Foreign 0x06 0x30 ≡ Reversal
an_unknown_reversal = refl

a_diagnosis : kind_of Foreign 0x06 0x70 ≡ Plain
a_diagnosis = refl

of_another_class : kind_of Foreign 0x05 0x31 ≡ Plain
of_another_class = refl
