-- The text of a message is that of its value.
use Rattle.std.proofs.Common.{◌≡◌, ℕ, true, false, Some, None, Option, List, [], ◌∷◌, ◌++◌, length, codes, refl, sym, ◌∙◌, ap, append_assoc, subst, Result}
use Rattle.std.specs.Fmt.{decimal}
use Rattle.hex.specs.Hex.{encode_upper}
use Rattle.json.specs.Print.{escape_byte}
use Rattle.serde_json.specs.Data.{Data, Members, member}
use Rattle.serde_json.specs.Written.{compact_text, items_text, members_text}
use Rattle.zvt_field.specs.Grammar.{Field}
use Rattle.zvt_apdu.specs.Kinds.{kind_of}
use Rattle.zvt_apdu.specs.declared.kinds.Kind.{Kind}
use Rattle.zvt_apdu.specs.declared.kinds.Kind.TheVariants as kind
use Rattle.zvt_apdu.specs.Message.{Message, ack, nack, registration, authorisation, reversal, end_of_day, abort_order, status, intermediate, print_line, text_block, completion, abort, other}
use Rattle.zvt_apdu.specs.Views.{config_in, control_of, currency_in, fields_in, payload_in}
use Rattle.zvt_text.specs.Bytes.{hex_of}
use Rattle.zvt_text.specs.MessageTexts.{four_digits, kind_name, part_text}
use Rattle.zvt_text.specs.Writing.{Puts}
use Rattle.zvt_text.specs.Meanings.{meaning_of, status_words}
use Rattle.zvt_trace.specs.declared.direction.Direction.{Direction}
use Rattle.zvt_trace.specs.declared.direction.Direction.TheVariants.{FromTill, FromTerminal}
use Rattle.zvt_json.specs.Strings.{count_value}
use Rattle.zvt_json.specs.Fields.{field_values}
use Rattle.zvt_json.specs.Messages.{about, command_of, first_members, last_members, message_value, with_currency, with_data, with_fields, with_name, with_size}
use Rattle.zvt_json.specs.Texts.{about_text, command_text, config_led, control_led, currency_led, data_led, fields_led, first_text, from_text, kind_led, last_text, message_text, registered_led, shut, size_led, words_text}
use Rattle.zvt_json.proofs.EscapeLemmas.{IsPlain, command_plain, four_plain, kind_plain, meaning_plain, status_plain}
use Rattle.zvt_json.proofs.TextLemmas.{words_said}

-- ---- the parts that a view gives

pub registration_first : (m : Message) (config currency : Option ℕ) (fields : Option (List Field)) → kind_of m ≡ kind.Registration → config ≡ config_in m → currency ≡ currency_in m → fields ≡ fields_in m →
    part_text config_led config ++ (part_text currency_led currency ++ part_text fields_led fields) ≡ first_text m
registration_first (registration w g None) config currency fields k a b c = rw (a, b, c) refl
registration_first (registration w g (Some s)) config currency fields k a b c = rw (a, b, c) refl
registration_first m config currency fields k a b c = absurd (cc (k))

pub other_first : (m : Message) (control : List ℕ) (payload : Option (List ℕ)) → kind.Other ≡ kind_of m → control ≡ control_of m → payload ≡ payload_in m → control_led control ++ part_text size_led payload ≡ first_text m
other_first (other high low x) control payload k a b = rw (a, b) refl
other_first m control payload k a b = absurd (cc (k))

-- ---- the first members

-- a member and its comma
led_before : (key text later : List ℕ) → (key ++ (text ++ 44 ∷ [])) ++ later ≡ key ++ (text ++ 44 ∷ later)
led_before key text later = append_assoc key (text ++ 44 ∷ []) later ∙ ap (λ (l : List ℕ). key ++ l) (append_assoc text (44 ∷ []) later)

data_said : (payload : List ℕ) (key : List ℕ) (value : Data) (later : Members) → data_led payload ++ members_text false (member key value later) ≡ members_text false (with_data payload (member key value later))
unfolding escape_byte
data_said [] key value later = refl
data_said (byte ∷ bytes) key value later = led_before (codes "\"data\":\"") (shut (encode_upper (byte ∷ bytes))) (members_text false (member key value later))

-- the payload has a comma before it
data_later : (payload : List ℕ) (key : List ℕ) (value : Data) (later : Members) → 44 ∷ members_text false (with_data payload (member key value later)) ≡ members_text true (with_data payload (member key value later))
data_later [] key value later = refl
data_later (byte ∷ bytes) key value later = refl

fields_said : (fields : List Field) (key : List ℕ) (value : Data) (later : Members) → fields_led fields ++ members_text false (member key value later) ≡ members_text false (with_fields fields (member key value later))
unfolding escape_byte
fields_said fields key value later = led_before (codes "\"fields\":[") (items_text false (field_values fields)) (members_text false (member key value later))

-- a member before the payload
with_payload : (name text payload key : List ℕ) (value : Data) (later : Members) →
    (name ++ (text ++ 44 ∷ []) ++ data_led payload) ++ members_text false (member key value later) ≡ name ++ (text ++ members_text true (with_data payload (member key value later)))
with_payload name text payload key value later =
    append_assoc (name ++ (text ++ 44 ∷ [])) (data_led payload) (members_text false (member key value later))
    ∙ ap (λ (l : List ℕ). (name ++ (text ++ 44 ∷ [])) ++ l) (data_said payload key value later)
    ∙ led_before name text (members_text false (with_data payload (member key value later)))
    ∙ ap (λ (l : List ℕ). name ++ (text ++ l)) (data_later payload key value later)

-- the size of a payload after another member
with_payload_size : (name text payload key : List ℕ) (value : Data) (later : Members) →
    (name ++ (text ++ 44 ∷ []) ++ size_led payload) ++ members_text false (member key value later) ≡ name ++ (text ++ members_text true (with_size payload (member key value later)))
unfolding escape_byte
with_payload_size name text payload key value later =
    append_assoc (name ++ (text ++ 44 ∷ [])) (size_led payload) (members_text false (member key value later))
    ∙ ap (λ (l : List ℕ). (name ++ (text ++ 44 ∷ [])) ++ l) (led_before (codes "\"data_size\":") (decimal (length payload)) (members_text false (member key value later)))
    ∙ led_before name text (members_text false (with_size payload (member key value later)))

currency_said : (currency : ℕ) (later : List ℕ) → (codes "\"currency\":\"" ++ (four_digits currency ++ codes "\",")) ++ later ≡ codes "\"currency\":\"" ++ (shut (four_digits currency) ++ 44 ∷ later)
currency_said currency later =
    ap (λ (l : List ℕ). codes "\"currency\":\"" ++ l) (append_assoc (four_digits currency) (34 ∷ 44 ∷ []) later ∙ sym (append_assoc (four_digits currency) (34 ∷ []) (44 ∷ later)))
    ∙ ap (λ (l : List ℕ). codes "\"currency\":\"" ++ ((l ++ 34 ∷ []) ++ 44 ∷ later)) (sym (four_plain currency))

registered_said : (rest : Option (ℕ × List Field)) (key : List ℕ) (value : Data) (later : Members) → registered_led rest ++ members_text false (member key value later) ≡ members_text false (with_currency rest (member key value later))
unfolding escape_byte
registered_said None key value later = refl
registered_said (Some rest) key value later =
    append_assoc (currency_led rest.0) (fields_led rest.1) (members_text false (member key value later))
    ∙ ap (λ (l : List ℕ). currency_led rest.0 ++ l) (fields_said rest.1 key value later)
    ∙ currency_said rest.0 (members_text false (with_fields rest.1 (member key value later)))

registered_later : (rest : Option (ℕ × List Field)) (key : List ℕ) (value : Data) (later : Members) → 44 ∷ members_text false (with_currency rest (member key value later)) ≡ members_text true (with_currency rest (member key value later))
registered_later None key value later = refl
registered_later (Some rest) key value later = refl

pub first_said : (m : Message) (key : List ℕ) (value : Data) (later : Members) → first_text m ++ members_text false (member key value later) ≡ members_text false (first_members m (member key value later))
unfolding escape_byte
first_said (ack payload) key value later = data_said payload key value later
first_said (nack code payload) key value later = with_payload (codes "\"code\":\"") (shut (hex_of code)) payload key value later
first_said (registration password config rest) key value later =
    append_assoc (config_led config) (registered_led rest) (members_text false (member key value later))
    ∙ ap (λ (l : List ℕ). config_led config ++ l) (registered_said rest key value later)
    ∙ led_before (codes "\"config\":\"") (shut (hex_of config)) (members_text false (with_currency rest (member key value later)))
    ∙ ap (λ (l : List ℕ). codes "\"config\":\"" ++ (shut (hex_of config) ++ l)) (registered_later rest key value later)
first_said (authorisation fields) key value later = fields_said fields key value later
first_said (reversal password fields) key value later = fields_said fields key value later
first_said (end_of_day password fields) key value later = fields_said fields key value later
first_said (abort_order fields) key value later = fields_said fields key value later
first_said (status fields) key value later = fields_said fields key value later
first_said (intermediate step payload) key value later = data_said payload key value later
first_said (print_line attribute text) key value later = led_before (codes "\"attribute\":\"") (shut (hex_of attribute)) (members_text false (member key value later))
first_said (text_block fields) key value later = fields_said fields key value later
first_said (completion fields) key value later = fields_said fields key value later
first_said (abort code payload) key value later = with_payload (codes "\"code\":\"") (shut (hex_of code)) payload key value later
first_said (other high low payload) key value later = with_payload_size (codes "\"control\":\"") (shut (encode_upper (high ∷ low ∷ []))) payload key value later

-- ---- the members that each has

-- the size of a message, and what comes after it
abbrev size_before : ℕ → List ℕ → List ℕ
size_before size later = codes ",\"size\":" ++ (decimal size ++ later)

-- a number, and what comes after it
about_before : (kind line name : List ℕ) (size : ℕ) (later : List ℕ) → (codes ",\"kind\":\"" ++ kind ++ (codes ",\"line\":" ++ (line ++ (name ++ (codes ",\"size\":" ++ decimal size))))) ++ later
    ≡ codes ",\"kind\":\"" ++ (kind ++ (codes ",\"line\":" ++ (line ++ (name ++ size_before size later))))
about_before kind line name size later =
    ap (λ (l : List ℕ). codes ",\"kind\":\"" ++ l) (append_assoc kind (codes ",\"line\":" ++ (line ++ (name ++ (codes ",\"size\":" ++ decimal size)))) later)
    ∙ ap (λ (l : List ℕ). codes ",\"kind\":\"" ++ (kind ++ (codes ",\"line\":" ++ l))) (append_assoc line (name ++ (codes ",\"size\":" ++ decimal size)) later)
    ∙ ap (λ (l : List ℕ). codes ",\"kind\":\"" ++ (kind ++ (codes ",\"line\":" ++ (line ++ l)))) (append_assoc name (codes ",\"size\":" ++ decimal size) later)

-- the kind of a message and its line, and what comes after them
abbrev kind_before : Kind → ℕ → List ℕ → List ℕ
kind_before k line later = codes ",\"kind\":\"" ++ (shut (kind_name k) ++ (codes ",\"line\":" ++ (decimal line ++ later)))

named_kind : (k : Kind) (name : Option (List ℕ)) (line size : ℕ) (later : List ℕ) → (kind_led k ++ (codes ",\"line\":" ++ (decimal line ++ (command_text name ++ (codes ",\"size\":" ++ decimal size))))) ++ later
    ≡ kind_before k line (command_text name ++ size_before size later)
named_kind k name line size later =
    about_before (kind_name k ++ 34 ∷ []) (decimal line) (command_text name) size later
    ∙ ap (λ (l : List ℕ). codes ",\"kind\":\"" ++ ((l ++ 34 ∷ []) ++ (codes ",\"line\":" ++ (decimal line ++ (command_text name ++ size_before size later))))) (sym (kind_plain k))

name_said : (name : Option (List ℕ)) (size : ℕ) (later : Members) → IsPlain name → command_text name ++ size_before size (members_text true later) ≡ members_text true (with_name name (member (codes "size") (count_value size) later))
unfolding escape_byte
name_said None size later plain = refl
name_said (Some name) size later plain = ap (λ (l : List ℕ). codes ",\"name\":\"" ++ ((l ++ 34 ∷ []) ++ size_before size (members_text true later))) (sym plain)

of_plain : (m : Message) → IsPlain (command_of m)
of_plain (ack payload) = refl
of_plain (nack code payload) = refl
of_plain (registration password config rest) = refl
of_plain (authorisation fields) = refl
of_plain (reversal password fields) = refl
of_plain (end_of_day password fields) = refl
of_plain (abort_order fields) = refl
of_plain (status fields) = refl
of_plain (intermediate step payload) = refl
of_plain (print_line attribute text) = refl
of_plain (text_block fields) = refl
of_plain (completion fields) = refl
of_plain (abort code payload) = refl
of_plain (other high low payload) = command_plain high low

kind_said : (m : Message) (line size : ℕ) (later : Members) → (kind_led (kind_of m) ++ (codes ",\"line\":" ++ (decimal line ++ (command_text (command_of m) ++ (codes ",\"size\":" ++ decimal size))))) ++ members_text true later
    ≡ kind_before (kind_of m) line (members_text true (with_name (command_of m) (member (codes "size") (count_value size) later)))
kind_said m line size later =
    named_kind (kind_of m) (command_of m) line size (members_text true later)
    ∙ ap (λ (l : List ℕ). kind_before (kind_of m) line l) (name_said (command_of m) size later (of_plain m))

pub about_said : (from : Direction) (m : Message) (line size : ℕ) (later : Members) → about_text from (kind_of m) (command_of m) line size ++ members_text true later ≡ members_text false (about from m line size later)
unfolding escape_byte
about_said FromTill m line size later = ap (λ (l : List ℕ). from_text FromTill ++ l) (kind_said m line size later)
about_said FromTerminal m line size later = ap (λ (l : List ℕ). from_text FromTerminal ++ l) (kind_said m line size later)

-- ---- the last member

pub last_said : (m : Message) → last_text m ≡ members_text true (last_members m)
unfolding escape_byte
last_said (ack payload) = refl
last_said (nack code payload) = refl
last_said (registration password config rest) = refl
last_said (authorisation fields) = refl
last_said (reversal password fields) = refl
last_said (end_of_day password fields) = refl
last_said (abort_order fields) = refl
last_said (status fields) = refl
last_said (intermediate step payload) = ap (λ (l : List ℕ). codes ",\"status\":\"" ++ (shut (hex_of step) ++ l)) (words_said (status_words step) (status_plain step))
last_said (print_line attribute text) = refl
last_said (text_block fields) = refl
last_said (completion fields) = refl
last_said (abort code payload) = words_said (meaning_of code) (meaning_plain code)
last_said (other high low payload) = refl

-- the words of a code by another expression
pub words_put : {E : Type 0} (result : Result ℕ E) (at : ℕ) (old new : List ℕ) (one two : Option (List ℕ)) → one ≡ two → Puts result at old new (words_text one) → Puts result at old new (words_text two)
words_put result at old new one two same puts = subst (λ (words : Option (List ℕ)). Puts result at old new (words_text words)) same puts

-- ---- a message

pub message_said : (from : Direction) (line size : ℕ) (m : Message) → message_text from line size m ≡ compact_text (message_value from line size m)
message_said from line size m =
    ap (λ (l : List ℕ). 123 ∷ (first_text m ++ (about_text from (kind_of m) (command_of m) line size ++ l))) (last_said m)
    ∙ ap (λ (l : List ℕ). 123 ∷ (first_text m ++ l)) (about_said from m line size (last_members m))
    ∙ ap (λ (l : List ℕ). 123 ∷ l) (first_said m _ _ _)
