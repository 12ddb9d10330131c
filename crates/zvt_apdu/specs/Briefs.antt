-- The messages that a till sends, by the few values that each is made of.
use Rattle.std.specs.Prelude.{ℕ, zero, suc, ◌+◌, ◌*◌, ◌/◌, ◌%◌, ◌^◌, Some, List, [], ◌∷◌, codes}
use Rattle.zvt_grammar.specs.Reading.{shortest}
use Rattle.zvt_tlv.specs.Sizes.{Puts}
use Rattle.zvt_field.specs.Grammar.{plain}
use Rattle.zvt_apdu.specs.declared.brief.Brief.{Brief}
use Rattle.zvt_apdu.specs.declared.brief.Brief.TheVariants.{Ack, Nack, Register, Pay, Reverse, CloseDay, AbortOrder}
use Rattle.zvt_apdu.specs.Message.{Message, ack, nack, registration, authorisation, reversal, end_of_day, abort_order}
use Rattle.zvt_apdu.specs.Grammar.{Spells}

-- a number in that many bytes of two digits each, the highest first
abbrev pub digits : (count number : ℕ) → List ℕ
digits zero number = []
digits (suc count) number = (number / 100 ^ count / 10 * 16 + number / 100 ^ count % 10) ∷ digits count (number % 100 ^ count)

-- a payment names its amount (BMP 04) and its currency (BMP 49), a reversal the receipt number (BMP 87)
abbrev pub message_of_brief : Brief → Message
message_of_brief Ack = ack []
message_of_brief (Nack code) = nack code []
message_of_brief (Register password config currency) = registration password config (Some (currency, []))
message_of_brief (Pay amount currency) = authorisation (plain 0x04 (digits 6 amount) ∷ plain 0x49 (digits 2 currency) ∷ [])
message_of_brief (Reverse password receipt) = reversal password (plain 0x87 receipt ∷ [])
message_of_brief (CloseDay password) = end_of_day password []
message_of_brief AbortOrder = abort_order []

-- A spelling of the message is at the start, and what was after it stays; the count is its size.
pub record PutsMessage (message : Message) (old new : List ℕ) (count : ℕ) : Type 0 where
  pub bytes : List ℕ
  pub spelled : Spells shortest message bytes
  pub puts : Puts bytes old new count

-- what is printed of it: the name of its kind, and neither a password nor anything else that it holds
abbrev pub brief_name : Brief → List ℕ
brief_name Ack = codes "Ack"
brief_name (Nack code) = codes "Nack"
brief_name (Register password config currency) = codes "Register"
brief_name (Pay amount currency) = codes "Pay"
brief_name (Reverse password receipt) = codes "Reverse"
brief_name (CloseDay password) = codes "CloseDay"
brief_name AbortOrder = codes "AbortOrder"
