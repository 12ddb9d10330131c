-- Messages as a journal has them.
use Rattle.std.specs.Prelude.{ℕ, List, [], ◌∷◌}
use Rattle.zvt_till.specs.declared.orders.Outgoing.{Outgoing}
use Rattle.zvt_till.specs.Sending.{outgoing}
use Rattle.zvt_apdu.specs.declared.brief.Brief.{Brief}
use Rattle.zvt_apdu.specs.declared.brief.Brief.TheVariants.{Ack, Nack, Register, Pay, Reverse, CloseDay, AbortOrder}

-- the message with 00 00 00 instead of its password
abbrev pub masked_message : Brief → Brief
masked_message (Register password config currency) = Register (0 ∷ 0 ∷ 0 ∷ []) config currency
masked_message (Reverse password receipt) = Reverse (0 ∷ 0 ∷ 0 ∷ []) receipt
masked_message (CloseDay password) = CloseDay (0 ∷ 0 ∷ 0 ∷ [])
masked_message (Pay amount currency) = Pay amount currency
masked_message Ack = Ack
masked_message (Nack code) = Nack code
masked_message AbortOrder = AbortOrder

abbrev pub masked : Outgoing → Outgoing
masked o = outgoing (masked_message o.brief)

-- the message of an ask, with 00 00 00 instead of its password
abbrev pub masked_ask : List ℕ
masked_ask = 6 ∷ 32 ∷ 3 ∷ 0 ∷ 0 ∷ 0 ∷ []
