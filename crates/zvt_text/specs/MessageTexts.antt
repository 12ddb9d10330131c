-- The text of a message: a head, and a line for each field.
use Rattle.std.specs.Prelude.{ℕ, ◌+◌, ◌/◌, ◌%◌, if◌then◌else◌, List, [], ◌∷◌, ◌++◌, Option, Some, None, option_map, unwrap_or, codes}
use Rattle.hex.specs.Hex.{encode_upper}
use Rattle.zvt_field.specs.Grammar.{Field}
use Rattle.zvt_apdu.specs.Kinds.{kind_of}
use Rattle.zvt_apdu.specs.declared.kinds.Kind.{Kind}
use Rattle.zvt_apdu.specs.declared.kinds.Kind.TheVariants as kind
use Rattle.zvt_apdu.specs.Message.{Message, ack, nack, registration, authorisation, reversal, end_of_day, abort_order, status, intermediate, print_line, text_block, completion, abort, other}
use Rattle.zvt_text.specs.Bytes.{hex_of, quoted}
use Rattle.zvt_text.specs.Results.{result_words}
use Rattle.zvt_text.specs.Lines.{field_lines}
use Rattle.zvt_text.specs.Secrets.{hidden_text}
use Rattle.zvt_text.specs.Notes.{head_note, note}
use Rattle.zvt_text.specs.declared.text_options.TextOptions.{TextOptions}

-- the payload of a message, if there is any
abbrev pub data_text : List ℕ → List ℕ
data_text [] = []
data_text (byte ∷ bytes) = codes " data " ++ encode_upper (byte ∷ bytes)

-- the size of a payload, if there is any
abbrev pub hidden_data : List ℕ → List ℕ
hidden_data [] = []
hidden_data (byte ∷ bytes) = codes " data " ++ hidden_text (byte ∷ bytes)

-- the payload of a message outside the profile: a safe text has its size alone
abbrev pub unknown_text : TextOptions → List ℕ → List ℕ
unknown_text options payload = if options.safe then hidden_data payload else data_text payload

-- four decimal digits
abbrev pub four_digits : ℕ → List ℕ
four_digits n = (48 + n / 1000 % 10) ∷ (48 + n / 100 % 10) ∷ (48 + n / 10 % 10) ∷ (48 + n % 10) ∷ []

-- what is written of a part, where it stands
abbrev pub part_text : {A : Type 0} → (A → List ℕ) → Option A → List ℕ
part_text text part = unwrap_or (option_map text part) []

abbrev pub hex_part : ℕ → List ℕ
hex_part byte = 32 ∷ hex_of byte

abbrev pub words_part : ℕ → List ℕ
words_part code = 32 ∷ result_words code

abbrev pub quoted_part : List ℕ → List ℕ
quoted_part line = 32 ∷ quoted line

abbrev pub config_text : ℕ → List ℕ
config_text config = codes " config " ++ hex_of config

abbrev pub named_currency : ℕ → List ℕ
named_currency currency = codes " currency " ++ four_digits currency

-- the currency of a registration, where it stands
abbrev pub currency_text : Option (ℕ × List Field) → List ℕ
currency_text None = []
currency_text (Some rest) = named_currency rest.0

-- the name of a kind of message
abbrev pub kind_name : Kind → List ℕ
kind_name kind.Ack = codes "Ack"
kind_name kind.Nack = codes "Nack"
kind_name kind.Registration = codes "Registration"
kind_name kind.Authorisation = codes "Authorisation"
kind_name kind.Reversal = codes "Reversal"
kind_name kind.EndOfDay = codes "EndOfDay"
kind_name kind.AbortOrder = codes "AbortOrder"
kind_name kind.Status = codes "Status"
kind_name kind.Intermediate = codes "Intermediate"
kind_name kind.PrintLine = codes "PrintLine"
kind_name kind.TextBlock = codes "TextBlock"
kind_name kind.Completion = codes "Completion"
kind_name kind.Abort = codes "Abort"
kind_name kind.Other = codes "Other"

abbrev pub kind_text : Message → List ℕ
kind_text message = kind_name (kind_of message)

-- what a head says after the name; a password is never written
abbrev pub detail_text : TextOptions → Message → List ℕ
detail_text options (ack payload) = data_text payload
detail_text options (nack code payload) = hex_part code ++ data_text payload
detail_text options (registration password config rest) = config_text config ++ currency_text rest
detail_text options (authorisation fields) = []
detail_text options (reversal password fields) = []
detail_text options (end_of_day password fields) = []
detail_text options (abort_order fields) = []
detail_text options (status fields) = []
detail_text options (intermediate step payload) = hex_part step ++ data_text payload
detail_text options (print_line attribute text) = hex_part attribute ++ quoted_part text
detail_text options (text_block fields) = []
detail_text options (completion fields) = []
detail_text options (abort code payload) = words_part code ++ data_text payload
detail_text options (other high low payload) = 32 ∷ encode_upper (high ∷ low ∷ []) ++ unknown_text options payload

abbrev pub title_text : TextOptions → Message → List ℕ
title_text options message = kind_text message ++ detail_text options message

abbrev pub head_text : TextOptions → Message → List ℕ
head_text options message = title_text options message ++ note options (head_note message)

abbrev pub registered_fields : Option (ℕ × List Field) → List Field
registered_fields None = []
registered_fields (Some rest) = rest.1

-- the fields of a message, where it has some
abbrev pub fields_of : Message → List Field
fields_of (ack payload) = []
fields_of (nack code payload) = []
fields_of (registration password config rest) = registered_fields rest
fields_of (authorisation fields) = fields
fields_of (reversal password fields) = fields
fields_of (end_of_day password fields) = fields
fields_of (abort_order fields) = fields
fields_of (status fields) = fields
fields_of (intermediate step payload) = []
fields_of (print_line attribute text) = []
fields_of (text_block fields) = fields
fields_of (completion fields) = fields
fields_of (abort code payload) = []
fields_of (other high low payload) = []

-- the head, the end of its line, and the lines of the fields
abbrev pub said : TextOptions → Message → List ℕ
said options message = head_text options message ++ 10 ∷ field_lines options (fields_of message)
