-- The messages that a till sends: one for each order, and a reply to each message.
use Rattle.std.specs.Prelude.{ℕ, List, Option, Some, None, slice_get, option_map}
use Rattle.zvt_till.specs.declared.orders.Order.{Order}
use Rattle.zvt_till.specs.declared.orders.Order.TheVariants.{Register as RegisterOrder, Pay as PayOrder, Reverse as ReverseOrder, CloseDay as CloseDayOrder, Cancel as CancelOrder}
use Rattle.zvt_till.specs.declared.orders.Outgoing.{Outgoing}
use Rattle.zvt_apdu.specs.declared.brief.Brief.{Brief}
use Rattle.zvt_apdu.specs.declared.brief.Brief.TheVariants.{Ack, Nack, Register, Pay, Reverse, CloseDay, AbortOrder}
use Rattle.zvt_till.specs.declared.messages.Heard.{Heard}
use Rattle.zvt_till.specs.declared.messages.Heard.TheVariants.{Positive, Negative, Status, Passing, Completion, Abort, Strange}
use Rattle.zvt_till.specs.declared.entries.Entry.{Entry}
use Rattle.zvt_till.specs.declared.settings.Rules.{Rules}

-- the settings of a till
pub record Settings : Type 0 where
  pub password : List ℕ
  pub config : ℕ
  pub currency : ℕ
  pub rules : Rules

-- the receipt number for reversing an entry
abbrev pub receipt_at : Option Entry → Option (List ℕ)
receipt_at None = None
receipt_at (Some row) = row.receipt

abbrev pub outgoing : Brief → Outgoing
outgoing brief = record { brief = brief }

-- the message of an accepted order
abbrev pub message_of : Settings → List Entry → Order → Option Outgoing
message_of s book RegisterOrder = Some (outgoing (Register s.password s.config s.currency))
message_of s book (PayOrder a) = Some (outgoing (Pay a s.currency))
message_of s book (ReverseOrder e) = option_map (λ receipt. outgoing (Reverse s.password receipt)) (receipt_at (slice_get book e))
message_of s book CloseDayOrder = Some (outgoing (CloseDay s.password))
message_of s book CancelOrder = Some (outgoing AbortOrder)

-- the reply to a message while the line is up; 131 is 83 in hexadecimal
abbrev pub reply_to : Heard → Option Outgoing
reply_to Positive = None
reply_to (Negative c) = None
reply_to (Status s) = Some (outgoing Ack)
reply_to Passing = Some (outgoing Ack)
reply_to Completion = Some (outgoing Ack)
reply_to (Abort c) = Some (outgoing Ack)
reply_to Strange = Some (outgoing (Nack 131))
