-- The JSON of a message. The members of an object come in the order of their names.
use Rattle.std.specs.Prelude.{ℕ, List, [], ◌∷◌, length, Option, Some, None, codes}
use Rattle.serde_json.specs.Data.{Data, string, array, object, Members, no_members, member}
use Rattle.zvt_field.specs.Grammar.{Field}
use Rattle.zvt_apdu.specs.Message.{Message, ack, nack, registration, authorisation, reversal, end_of_day, abort_order, status, intermediate, print_line, text_block, completion, abort, other}
use Rattle.zvt_text.specs.MessageTexts.{four_digits, kind_text}
use Rattle.zvt_text.specs.Meanings.{command_name, meaning_of, status_words}
use Rattle.zvt_trace.specs.declared.direction.Direction.{Direction}
use Rattle.zvt_trace.specs.declared.direction.Direction.TheVariants.{FromTill, FromTerminal}
use Rattle.zvt_json.specs.Strings.{byte_value, count_value, hex_value, text_value}
use Rattle.zvt_json.specs.Fields.{field_values, words_of}

abbrev pub side_name : Direction → List ℕ
side_name FromTill = codes "till"
side_name FromTerminal = codes "terminal"

-- the name of a command outside the profile, if the table of commands has it
abbrev pub command_of : Message → Option (List ℕ)
command_of (ack payload) = None
command_of (nack code payload) = None
command_of (registration password config rest) = None
command_of (authorisation fields) = None
command_of (reversal password fields) = None
command_of (end_of_day password fields) = None
command_of (abort_order fields) = None
command_of (status fields) = None
command_of (intermediate step payload) = None
command_of (print_line attribute text) = None
command_of (text_block fields) = None
command_of (completion fields) = None
command_of (abort code payload) = None
command_of (other high low payload) = command_name high low

-- a name, if there is one, and the members after it
abbrev pub with_name : Option (List ℕ) → Members → Members
with_name None later = later
with_name (Some name) later = member (codes "name") (string name) later

-- the sender, the kind of the message, the line in which it ends, its name, and its size
abbrev pub about : Direction → Message → (line size : ℕ) → Members → Members
about from message line size later =
    member (codes "from") (string (side_name from))
    (member (codes "kind") (string (kind_text message))
    (member (codes "line") (count_value line) (with_name (command_of message) (member (codes "size") (count_value size) later))))

-- the payload, if there is any, and the text after it
abbrev pub with_data : List ℕ → Members → Members
with_data [] later = later
with_data (byte ∷ bytes) later = member (codes "data") (hex_value (byte ∷ bytes)) later

-- the size of a payload that is not shown
abbrev pub with_size : List ℕ → Members → Members
with_size payload later = member (codes "data_size") (count_value (length payload)) later

abbrev pub with_fields : List Field → Members → Members
with_fields fields later = member (codes "fields") (array (field_values fields)) later

-- the currency of a registration and its fields, if it has them
abbrev pub with_currency : Option (ℕ × List Field) → Members → Members
with_currency None later = later
with_currency (Some rest) later = member (codes "currency") (string (four_digits rest.0)) (with_fields rest.1 later)

-- the members before the members of `about`; neither a password nor the data of a message outside the profile is one
abbrev pub first_members : Message → Members → Members
first_members (ack payload) later = with_data payload later
first_members (nack code payload) later = member (codes "code") (byte_value code) (with_data payload later)
first_members (registration password config rest) later = member (codes "config") (byte_value config) (with_currency rest later)
first_members (authorisation fields) later = with_fields fields later
first_members (reversal password fields) later = with_fields fields later
first_members (end_of_day password fields) later = with_fields fields later
first_members (abort_order fields) later = with_fields fields later
first_members (status fields) later = with_fields fields later
first_members (intermediate step payload) later = with_data payload later
first_members (print_line attribute text) later = member (codes "attribute") (byte_value attribute) later
first_members (text_block fields) later = with_fields fields later
first_members (completion fields) later = with_fields fields later
first_members (abort code payload) later = member (codes "code") (byte_value code) (with_data payload later)
first_members (other high low payload) later = member (codes "control") (hex_value (high ∷ low ∷ [])) (with_size payload later)

-- the members after them
abbrev pub last_members : Message → Members
last_members (ack payload) = no_members
last_members (nack code payload) = no_members
last_members (registration password config rest) = no_members
last_members (authorisation fields) = no_members
last_members (reversal password fields) = no_members
last_members (end_of_day password fields) = no_members
last_members (abort_order fields) = no_members
last_members (status fields) = no_members
last_members (intermediate step payload) = member (codes "status") (byte_value step) (words_of (status_words step))
last_members (print_line attribute text) = member (codes "text") (text_value text) no_members
last_members (text_block fields) = no_members
last_members (completion fields) = no_members
last_members (abort code payload) = words_of (meaning_of code)
last_members (other high low payload) = no_members

-- a message that a side sent, in a line of the trace, with this many bytes
abbrev pub message_value : Direction → (line size : ℕ) → Message → Data
message_value from line size message = object (first_members message (about from message line size (last_members message)))
