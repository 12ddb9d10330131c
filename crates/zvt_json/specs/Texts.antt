-- The text of the values, part by part, for the clauses of private functions.
use Rattle.std.specs.Prelude.{ℕ, false, if◌then◌else◌, length, Some, None, List, [], ◌∷◌, ◌++◌, Option, option_map, unwrap_or, codes}
use Rattle.std.specs.Fmt.{decimal}
use Rattle.hex.specs.Hex.{encode_upper}
use Rattle.json.specs.Print.{escape}
use Rattle.serde_json.specs.Written.{items_text}
use Rattle.zvt_grammar.specs.Names.{why_name}
use Rattle.zvt_grammar.specs.declared.why.Why.{Why}
use Rattle.zvt_tlv.specs.Grammar.{Objects}
use Rattle.zvt_field.specs.Grammar.{Field}
use Rattle.zvt_apdu.specs.Kinds.{kind_of}
use Rattle.zvt_apdu.specs.declared.kinds.Kind.{Kind}
use Rattle.zvt_apdu.specs.Message.{Message, ack, nack, registration, authorisation, reversal, end_of_day, abort_order, status, intermediate, print_line, text_block, completion, abort, other}
use Rattle.zvt_text.specs.Bytes.{escaped_text, hex_of}
use Rattle.zvt_text.specs.MessageTexts.{four_digits, kind_name}
use Rattle.zvt_text.specs.Meanings.{meaning_of, status_words}
use Rattle.zvt_text.specs.Secrets.{is_secret_tag}
use Rattle.zvt_trace.specs.declared.direction.Direction.{Direction}
use Rattle.zvt_trace.specs.declared.direction.Direction.TheVariants.{FromTill, FromTerminal}
use Rattle.zvt_trace.specs.TraceEvent.{TraceEvent}
use Rattle.zvt_trace.specs.TraceEvent as trace_event
use Rattle.zvt_json.specs.Fields.{field_name, field_values, object_values}
use Rattle.zvt_json.specs.Messages.{command_of}

-- a text in a JSON string, and the quotation mark after it
abbrev pub shut : List ℕ → List ℕ
shut text = escape text ++ 34 ∷ []

-- ---- messages: members that have a comma after them

abbrev pub code_led : ℕ → List ℕ
code_led code = codes "\"code\":\"" ++ (shut (hex_of code) ++ codes ",")

abbrev pub config_led : ℕ → List ℕ
config_led config = codes "\"config\":\"" ++ (shut (hex_of config) ++ codes ",")

abbrev pub attribute_led : ℕ → List ℕ
attribute_led attribute = codes "\"attribute\":\"" ++ (shut (hex_of attribute) ++ codes ",")

abbrev pub control_led : List ℕ → List ℕ
control_led control = codes "\"control\":\"" ++ (shut (encode_upper control) ++ codes ",")

abbrev pub currency_led : ℕ → List ℕ
currency_led currency = codes "\"currency\":\"" ++ (four_digits currency ++ codes "\",")

abbrev pub data_led : List ℕ → List ℕ
data_led [] = []
data_led (byte ∷ bytes) = codes "\"data\":\"" ++ (shut (encode_upper (byte ∷ bytes)) ++ codes ",")

abbrev pub size_member : ℕ → List ℕ
size_member size = codes "\"data_size\":" ++ (decimal size ++ codes ",")

abbrev pub size_led : List ℕ → List ℕ
size_led payload = size_member (length payload)

abbrev pub fields_led : List Field → List ℕ
fields_led fields = codes "\"fields\":[" ++ (items_text false (field_values fields) ++ codes ",")

abbrev pub registered_led : Option (ℕ × List Field) → List ℕ
registered_led None = []
registered_led (Some rest) = currency_led rest.0 ++ fields_led rest.1

abbrev pub first_text : Message → List ℕ
first_text (ack payload) = data_led payload
first_text (nack code payload) = code_led code ++ data_led payload
first_text (registration password config rest) = config_led config ++ registered_led rest
first_text (authorisation fields) = fields_led fields
first_text (reversal password fields) = fields_led fields
first_text (end_of_day password fields) = fields_led fields
first_text (abort_order fields) = fields_led fields
first_text (status fields) = fields_led fields
first_text (intermediate step payload) = data_led payload
first_text (print_line attribute text) = attribute_led attribute
first_text (text_block fields) = fields_led fields
first_text (completion fields) = fields_led fields
first_text (abort code payload) = code_led code ++ data_led payload
first_text (other high low payload) = control_led (high ∷ low ∷ []) ++ size_led payload

-- ---- messages: the members that each has

abbrev pub from_text : Direction → List ℕ
from_text FromTill = codes "\"from\":\"till\""
from_text FromTerminal = codes "\"from\":\"terminal\""

abbrev pub kind_led : Kind → List ℕ
kind_led kind = codes ",\"kind\":\"" ++ (kind_name kind ++ 34 ∷ [])

-- the name of a command, if it has one
abbrev pub command_text : Option (List ℕ) → List ℕ
command_text None = []
command_text (Some name) = codes ",\"name\":\"" ++ (name ++ 34 ∷ [])

abbrev pub about_text : Direction → Kind → (name : Option (List ℕ)) → (line size : ℕ) → List ℕ
about_text from kind name line size =
    from_text from ++ (kind_led kind ++ (codes ",\"line\":" ++ (decimal line ++ (command_text name ++ (codes ",\"size\":" ++ decimal size)))))

-- ---- messages: the last member, if there is one, and the end of the object

abbrev pub ended : {A : Type 0} → (A → List ℕ) → Option A → List ℕ
ended text part = unwrap_or (option_map text part) (codes "}")

abbrev pub printed_text : List ℕ → List ℕ
printed_text line = codes ",\"text\":\"" ++ (shut (escaped_text line) ++ codes "}")

-- the words of a code or a status, if it has some
abbrev pub words_text : Option (List ℕ) → List ℕ
words_text None = codes "}"
words_text (Some meaning) = codes ",\"words\":\"" ++ (meaning ++ 34 ∷ []) ++ codes "}"

abbrev pub coded_text : ℕ → List ℕ
coded_text code = words_text (meaning_of code)

abbrev pub status_text : ℕ → List ℕ
status_text step = codes ",\"status\":\"" ++ (shut (hex_of step) ++ words_text (status_words step))

abbrev pub last_text : Message → List ℕ
last_text (ack payload) = codes "}"
last_text (nack code payload) = codes "}"
last_text (registration password config rest) = codes "}"
last_text (authorisation fields) = codes "}"
last_text (reversal password fields) = codes "}"
last_text (end_of_day password fields) = codes "}"
last_text (abort_order fields) = codes "}"
last_text (status fields) = codes "}"
last_text (intermediate step payload) = status_text step
last_text (print_line attribute text) = printed_text text
last_text (text_block fields) = codes "}"
last_text (completion fields) = codes "}"
last_text (abort code payload) = coded_text code
last_text (other high low payload) = codes "}"

abbrev pub message_text : Direction → (line size : ℕ) → Message → List ℕ
message_text from line size message = codes "{" ++ (first_text message ++ (about_text from (kind_of message) (command_of message) line size ++ last_text message))

-- ---- events

abbrev pub side_text : Direction → (line : ℕ) → List ℕ
side_text from line = codes "{" ++ (from_text from ++ (codes ",\"line\":" ++ decimal line))

abbrev pub reason_text : (byte place : ℕ) → Why → List ℕ
reason_text byte place why =
    codes "{\"byte\":\"" ++ (shut (hex_of byte) ++ (codes ",\"place\":" ++ (decimal place ++ (codes ",\"reason\":\"" ++ (why_name why ++ codes "\"}")))))

abbrev pub refused_text : Direction → (line byte place : ℕ) → Why → List ℕ
refused_text from line byte place why = side_text from line ++ (codes ",\"refused\":" ++ (reason_text byte place why ++ codes "}"))

abbrev pub stopped_text : Direction → (line : ℕ) → List ℕ
stopped_text from line = side_text from line ++ codes ",\"stopped\":true}"

abbrev pub resumed_text : Direction → (line size : ℕ) → List ℕ
resumed_text from line size = side_text from line ++ (codes ",\"resumed\":" ++ (decimal size ++ codes "}"))

abbrev pub truncated_text : Direction → (line have : ℕ) → List ℕ
truncated_text from line have = side_text from line ++ (codes ",\"truncated\":{\"after\":" ++ (decimal have ++ codes "}}"))

abbrev pub lost_text : (line : ℕ) → List ℕ
lost_text line = codes "{\"line\":" ++ (decimal line ++ codes ",\"lost\":true}")

-- an event in a line; a message has this size with the shortest lengths
abbrev pub event_text : (line size : ℕ) → TraceEvent → List ℕ
event_text line size (trace_event.message from m) = message_text from line size m
event_text line size (trace_event.refused from before byte why) = refused_text from line byte (length before) why
event_text line size (trace_event.unread from) = stopped_text from line
event_text line size (trace_event.resumed from skipped) = resumed_text from line skipped
event_text line size (trace_event.cut_off from bytes) = truncated_text from line (length bytes)
event_text line size trace_event.lost = lost_text line

-- ---- fields

abbrev pub opened_text : ℕ → List ℕ
opened_text bmp = codes "{\"bmp\":\"" ++ shut (hex_of bmp)

abbrev pub name_text : ℕ → List ℕ
name_text bmp = codes ",\"name\":\"" ++ (field_name bmp ++ 34 ∷ [])

abbrev pub content_text : ℕ → List ℕ → List ℕ
content_text bmp content = opened_text bmp ++ (codes ",\"content\":\"" ++ (shut (encode_upper content) ++ (name_text bmp ++ codes "}")))

abbrev pub code_text : ℕ → ℕ → List ℕ
code_text bmp code = opened_text bmp ++ (codes ",\"code\":\"" ++ (shut (hex_of code) ++ (name_text bmp ++ words_text (meaning_of code))))

abbrev pub result_text : ℕ → List ℕ → List ℕ
result_text bmp (code ∷ []) = code_text bmp code
result_text bmp content = content_text bmp content

abbrev pub amount_text : ℕ → ℕ → List ℕ
amount_text bmp units = opened_text bmp ++ (name_text bmp ++ (codes ",\"value\":" ++ (decimal units ++ codes "}")))

abbrev pub quoted_text : ℕ → List ℕ → List ℕ
quoted_text bmp content = opened_text bmp ++ (name_text bmp ++ (codes ",\"text\":\"" ++ (shut (escaped_text content) ++ codes "}")))

abbrev pub hidden_text : ℕ → ℕ → List ℕ
hidden_text bmp size = opened_text bmp ++ (codes ",\"hidden\":" ++ (decimal size ++ (name_text bmp ++ codes "}")))

abbrev pub tree_text : ℕ → Objects → List ℕ
tree_text bmp objects = opened_text bmp ++ (name_text bmp ++ (codes ",\"objects\":[" ++ (items_text false (object_values objects) ++ codes "}")))

-- ---- objects

abbrev pub tag_text : List ℕ → List ℕ
tag_text tag = codes ",\"tag\":\"" ++ (shut (encode_upper tag) ++ codes "}")

abbrev pub hidden_object_text : (tag : List ℕ) → (size : ℕ) → List ℕ
hidden_object_text tag size = codes "{\"hidden\":" ++ (decimal size ++ tag_text tag)

abbrev pub shown_text : (tag content : List ℕ) → List ℕ
shown_text tag content = codes "{\"content\":\"" ++ (shut (encode_upper content) ++ tag_text tag)

abbrev pub primitive_text : (tag content : List ℕ) → List ℕ
primitive_text tag content = if is_secret_tag tag then hidden_object_text tag (length content) else shown_text tag content
