-- The messages of a terminal with extras: a card's fields in the status of a transaction, receipts as text blocks, and
-- intermediate statuses.
use Rattle.std.specs.Prelude.{◌≡◌, ℕ, ◌+◌, ◌&&◌, Bool, true, false, cond, Option, Some, None, List, [], ◌∷◌, ◌++◌, drop, length, codes}
use Rattle.zvt_tlv.specs.Grammar.{none, primitive, constructed}
use Rattle.zvt_apdu.specs.Briefs.{digits}
use Rattle.zvt_field.specs.Grammar.{Field, plain, tree}
use Rattle.zvt_apdu.specs.Message.{Message, ack, status, intermediate, print_line, text_block}
use Rattle.zvt_stream.specs.Apdus.{Spells, Spelled}
use Rattle.zvt_stream.specs.Answered.{Answered}
use Rattle.zvt_term.specs.declared.cards.Card.{Card}
use Rattle.zvt_term.specs.declared.cards.Card.TheVariants.{Girocard, Visa}
use Rattle.zvt_term.specs.declared.extras.Extras.{Extras}
use Rattle.zvt_term.specs.declared.extras.Receipts.{Receipts}
use Rattle.zvt_term.specs.declared.extras.Receipts.TheVariants.{Lines, Blocks, Nothing as NoReceipts}
use Rattle.zvt_term.specs.declared.messages.Report.{Report}
use Rattle.zvt_term.specs.declared.messages.Report.TheVariants.{Ack, Approved, Result, TakenBack, Line}
use Rattle.zvt_term.specs.declared.messages.Response.{Response}
use Rattle.zvt_term.specs.declared.messages.Response.TheVariants.{Nothing, One, Two}
use Rattle.zvt_term.specs.Reports.{message_of_report, text_of}

-- ---- cards

-- of any card: the contract number (2A), the authorisation attribute (3B), a text (3C), and a container (06) of the card
-- type (41), the receipt parameters (45) and the application (60) with its ID (43)
abbrev pub authorised_fields : (kind : ℕ) → (application : List ℕ) → List Field
authorised_fields kind application =
    plain 0x2A (codes "123456789012345")
    ∷ plain 0x3B (codes "123456" ++ 0 ∷ 0 ∷ [])
    ∷ plain 0x3C (codes "APPROVED")
    ∷ tree 0x06 (primitive (0x41 ∷ []) (kind ∷ []) (primitive (0x45 ∷ []) (0 ∷ []) (constructed (0x60 ∷ []) (primitive (0x43 ∷ []) application none) none)))
    ∷ []

-- the masked number (22), the payment type (19), the card type (8A), and the name (8B) with a zero byte at its end; then the
-- number of the card type at the network operator (8C), or the expiry date (0E) and the sequence number (17)
abbrev pub card_fields : Card → List Field
card_fields Girocard =
    plain 0x22 (0x67 ∷ 0x26 ∷ 0xEE ∷ 0xEE ∷ 0xEE ∷ 0xEE ∷ 0x12 ∷ 0x34 ∷ [])
    ∷ plain 0x19 (0x70 ∷ [])
    ∷ plain 0x8A (0x05 ∷ [])
    ∷ plain 0x8B (codes "girocard" ++ 0 ∷ [])
    ∷ plain 0x8C (0x01 ∷ [])
    ∷ authorised_fields 0x05 (0xA0 ∷ 0x00 ∷ 0x00 ∷ 0x03 ∷ 0x59 ∷ 0x10 ∷ 0x10 ∷ 0x02 ∷ 0x80 ∷ 0x01 ∷ [])
card_fields Visa =
    plain 0x22 (0x40 ∷ 0x00 ∷ 0xEE ∷ 0xEE ∷ 0xEE ∷ 0xEE ∷ 0x00 ∷ 0x02 ∷ [])
    ∷ plain 0x19 (0x60 ∷ [])
    ∷ plain 0x8A (0x0A ∷ [])
    ∷ plain 0x8B (codes "Visa" ++ 0 ∷ [])
    ∷ plain 0x0E (0x28 ∷ 0x12 ∷ [])
    ∷ plain 0x17 (0x00 ∷ 0x01 ∷ [])
    ∷ authorised_fields 0x0A (0xA0 ∷ 0x00 ∷ 0x00 ∷ 0x00 ∷ 0x03 ∷ 0x10 ∷ 0x10 ∷ [])

-- the number of the terminal (29), and then the fields of the card
abbrev pub fields_at : (tid : ℕ) → Card → List Field
fields_at tid card = plain 0x29 (digits 4 tid) ∷ card_fields card

-- a status, and then more fields
abbrev pub with_fields : List Field → Message → Message
with_fields more (status fields) = status (fields ++ more)
with_fields more message = message

abbrev pub carded : (tid : ℕ) → Option Card → Message → Message
carded tid None message = message
carded tid (Some card) message = with_fields (fields_at tid card) message

-- ---- receipts

-- the text as a line (07) of a text (25)
abbrev pub block : List ℕ → Message
block text = text_block (tree 0x06 (constructed (0x25 ∷ []) (primitive (0x07 ∷ []) text none) none) ∷ [])

abbrev pub lined : Receipts → List ℕ → Message
lined Lines text = print_line 0 text
lined Blocks text = block text
lined NoReceipts text = print_line 0 text

-- ---- messages

-- the status of an approval, a refund or a reversal has the card's fields
abbrev pub message_by : (tid : ℕ) → Extras → Report → Message
message_by tid extras (Approved amount number currency) = carded tid extras.card (message_of_report (Approved amount number currency))
message_by tid extras (TakenBack amount number original currency) = carded tid extras.card (message_of_report (TakenBack amount number original currency))
message_by tid extras (Line line) = lined extras.receipts (text_of line)
message_by tid extras report = message_of_report report

abbrev pub is_ack : Report → Bool
is_ack Ack = true
is_ack report = false

-- only what comes alone or after an acknowledgement has the card's fields or is a text block
abbrev pub messages_by : (tid : ℕ) → Extras → Response → List Message
messages_by tid extras Nothing = []
messages_by tid extras (One report) = message_by tid extras report ∷ []
messages_by tid extras (Two first second) = message_of_report first ∷ cond (is_ack first) (message_by tid extras second) (message_of_report second) ∷ []

-- ---- intermediate statuses

abbrev pub is_status : Report → Bool
is_status (Approved amount number currency) = true
is_status (Result code) = true
is_status (TakenBack amount number original currency) = true
is_status report = false

-- a status that would come after an acknowledgement comes later
abbrev pub is_delayed : Extras → Response → Bool
is_delayed extras Nothing = false
is_delayed extras (One report) = false
is_delayed extras (Two first second) = extras.intermediate && (is_ack first && is_status second)

-- an intermediate status of 0E: please wait
abbrev pub please_wait : List Message
please_wait = ack [] ∷ intermediate 0x0E [] ∷ []

-- the messages that a terminal sends in place of these reports
abbrev pub said_by : (tid : ℕ) → Extras → Response → List Message
said_by tid extras reply = cond (is_delayed extras reply) please_wait (messages_by tid extras reply)

-- the messages that follow the acknowledgement of an order
abbrev pub said_later : (tid : ℕ) → Extras → Response → List Message
said_later tid extras reply = drop 1 (said_by tid extras reply)

-- one message more
pub record AddsMessage (message : Message) (old new : Answered) : Type 0 where
  pub bytes : List ℕ
  pub spelled : Spells message bytes
  pub after : new.bytes ≡ old.bytes ++ bytes
  pub counted : new.count ≡ old.count + 1

-- The replies are these messages, one after another.
pub record SaysAll (messages : List Message) (answers : Answered) : Type 0 where
  pub spelled : Spelled answers.bytes messages []
  pub counted : answers.count ≡ length messages
