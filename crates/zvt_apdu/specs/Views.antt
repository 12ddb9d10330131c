-- What a view of a message's bytes holds.
use Rattle.std.specs.Prelude.{◌≡◌, ℕ, Option, Some, None, List, [], ◌∷◌, ◌++◌, length}
use Rattle.std.proofs.Common.{refl}
use Rattle.zvt_grammar.specs.Reading.{padded}
use Rattle.zvt_tlv.specs.Views.{OneOf, one_value}
use Rattle.zvt_field.specs.Grammar.{Field}
use Rattle.zvt_apdu.specs.Message.{Message, ack, nack, registration, authorisation, reversal, end_of_day, abort_order, status, intermediate, print_line, text_block, completion, abort, other}
use Rattle.zvt_apdu.specs.MessageCode.{message_code}
use Rattle.zvt_apdu.specs.Grammar.{IsFrameLength, Spells}
use Rattle.zvt_apdu.specs.UniqueDecoding.{one_message}

-- The message that the bytes spell, each length in any form that holds it.
abbrev pub MessageBytes : List ℕ → Type 0
MessageBytes = OneOf (Spells padded)

pub message_once : (bytes : List ℕ) → (a b : MessageBytes bytes) → a ≡ b
message_once bytes = one_value message_code (Spells padded) bytes (λ m n p q. one_message padded m n bytes bytes refl p q)

-- The fields of a message, where it has fields.
abbrev pub fields_in : Message → Option (List Field)
fields_in (ack payload) = None
fields_in (nack code payload) = None
fields_in (registration password config None) = None
fields_in (registration password config (Some rest)) = Some rest.1
fields_in (authorisation fields) = Some fields
fields_in (reversal password fields) = Some fields
fields_in (end_of_day password fields) = Some fields
fields_in (abort_order fields) = Some fields
fields_in (status fields) = Some fields
fields_in (intermediate step payload) = None
fields_in (print_line attribute text) = None
fields_in (text_block fields) = Some fields
fields_in (completion fields) = Some fields
fields_in (abort code payload) = None
fields_in (other high low payload) = None

-- The control bytes, the length and the data of a message.
abbrev pub FrameFirst : List ℕ → Type 0
FrameFirst bytes = (high : ℕ) × (low : ℕ) × (size : List ℕ) × (content : List ℕ) × (bytes ≡ high ∷ low ∷ (size ++ content)) × IsFrameLength padded (length content) size

-- The control bytes of a message.
abbrev pub control_of : Message → List ℕ
control_of (ack payload) = 0x80 ∷ 0x00 ∷ []
control_of (nack code payload) = 0x84 ∷ code ∷ []
control_of (registration password config rest) = 0x06 ∷ 0x00 ∷ []
control_of (authorisation fields) = 0x06 ∷ 0x01 ∷ []
control_of (reversal password fields) = 0x06 ∷ 0x30 ∷ []
control_of (end_of_day password fields) = 0x06 ∷ 0x50 ∷ []
control_of (abort_order fields) = 0x06 ∷ 0xB0 ∷ []
control_of (status fields) = 0x04 ∷ 0x0F ∷ []
control_of (intermediate step payload) = 0x04 ∷ 0xFF ∷ []
control_of (print_line attribute text) = 0x06 ∷ 0xD1 ∷ []
control_of (text_block fields) = 0x06 ∷ 0xD3 ∷ []
control_of (completion fields) = 0x06 ∷ 0x0F ∷ []
control_of (abort code payload) = 0x06 ∷ 0x1E ∷ []
control_of (other high low payload) = high ∷ low ∷ []

-- The code of a refusal, or of an order given up.
abbrev pub code_in : Message → Option ℕ
code_in (nack code payload) = Some code
code_in (abort code payload) = Some code
code_in _ = None

-- The password before an order.
abbrev pub password_in : Message → Option (List ℕ)
password_in (registration password config rest) = Some password
password_in (reversal password fields) = Some password
password_in (end_of_day password fields) = Some password
password_in _ = None

-- The configuration of a registration.
abbrev pub config_in : Message → Option ℕ
config_in (registration password config rest) = Some config
config_in _ = None

-- The currency of a registration, where it stands.
abbrev pub currency_in : Message → Option ℕ
currency_in (registration password config (Some rest)) = Some rest.0
currency_in _ = None

-- What the terminal is at.
abbrev pub status_in : Message → Option ℕ
status_in (intermediate step payload) = Some step
status_in _ = None

-- The attribute of a line to print.
abbrev pub attribute_in : Message → Option ℕ
attribute_in (print_line attribute text) = Some attribute
attribute_in _ = None

-- The text of a line to print.
abbrev pub text_in : Message → Option (List ℕ)
text_in (print_line attribute text) = Some text
text_in _ = None

-- The bytes of any value after the others.
abbrev pub payload_in : Message → Option (List ℕ)
payload_in (ack payload) = Some payload
payload_in (nack code payload) = Some payload
payload_in (intermediate step payload) = Some payload
payload_in (abort code payload) = Some payload
payload_in (other high low payload) = Some payload
payload_in _ = None
