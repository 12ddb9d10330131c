-- Only the size of what is hidden is said.
use Rattle.std.proofs.Common.{◌≡◌, ℕ, Bool, true, false, if◌then◌else◌, List, [], ◌∷◌, ◌++◌, Some, None, length, codes, refl, sym, ◌∙◌, ap}
use Rattle.serde_json.specs.Data.{Data, Items, Members, array, item, member, no_members, object, string}
use Rattle.zvt_tlv.specs.Grammar.{Objects, none, primitive, constructed}
use Rattle.zvt_field.specs.Grammar.{Field, plain, tree}
use Rattle.zvt_field.specs.Shapes.{format_of}
use Rattle.zvt_field.specs.declared.shapes.Format.{Format}
use Rattle.zvt_field.specs.declared.shapes.Format.TheVariants.{Amount, Bytes, Hidden, Result, Text}
use Rattle.zvt_apdu.specs.Message.{Message, ack, nack, registration, authorisation, reversal, end_of_day, abort_order, status, intermediate, print_line, text_block, completion, abort, other}
use Rattle.zvt_text.specs.MessageTexts.{four_digits}
use Rattle.zvt_text.specs.Secrets.{blank, blanked, blanked_field, blanked_fields, blanked_in, blanked_objects, is_secret_tag}
use Rattle.zvt_text.proofs.Secrets.{blank_size}
use Rattle.zvt_trace.specs.declared.direction.Direction.{Direction}
use Rattle.zvt_json.specs.Strings.{byte_value, hex_value, count_value}
use Rattle.zvt_json.specs.Fields.{constructed_value, field_value, field_values, hidden_object, hidden_value, named, object_values, of_bmp, shown_object, value_in}
use Rattle.zvt_json.specs.Messages.{about, message_value}
use Rattle.zvt_json.specs.Laws.{PasswordsStayHidden, SafeValuesAgree, SecretsStayHidden}

pub passwords_stay_hidden : PasswordsStayHidden
passwords_stay_hidden from line size one two config rest fields = (refl, refl, refl)

-- two fields of one value say the same wherever they stand
alike : (f g : Field) (before after : List Field) → field_value f ≡ field_value g → field_values (before ++ f ∷ after) ≡ field_values (before ++ g ∷ after)
alike f g [] after e = ap (λ value. item value (field_values after)) e
alike f g (first ∷ before) after e = ap (λ (values : Items). item (field_value first) values) (alike f g before after e)

-- the value of a field that is shown so
abbrev value_of : ℕ → List ℕ → Format → Data
value_of bmp content format = value_in format bmp content

pub secrets_stay_hidden : SecretsStayHidden
secrets_stay_hidden bmp is before after one two e =
    alike (plain bmp one) (plain bmp two) before after (ap (value_of bmp one) is ∙ ap (hidden_value bmp) e ∙ sym (ap (value_of bmp two) is))

-- ---- what is blanked has the same value

-- an object, where it is known whether its tag is secret
abbrev object_in : Bool → (tag content : List ℕ) → Data
object_in secret tag content = if secret then hidden_object tag (length content) else shown_object tag content

object_same : (secret : Bool) (tag content : List ℕ) → object_in secret tag (if secret then blank content else content) ≡ object_in secret tag content
object_same true tag content = ap (hidden_object tag) (blank_size content)
object_same false tag content = refl

objects_same : (objects : Objects) → object_values (blanked_objects objects) ≡ object_values objects
objects_same none = refl
objects_same (primitive tag content rest) =
    ap (λ (value : Data). item value (object_values (blanked_objects rest))) (object_same (is_secret_tag tag) tag content)
    ∙ ap (λ (values : Items). item (object_in (is_secret_tag tag) tag content) values) (objects_same rest)
objects_same (constructed tag inner rest) =
    ap (λ (values : Items). item (constructed_value tag values) (object_values (blanked_objects rest))) (objects_same inner)
    ∙ ap (λ (values : Items). item (constructed_value tag (object_values inner)) values) (objects_same rest)

value_same : (format : Format) (bmp : ℕ) (content : List ℕ) → value_in format bmp (blanked_in format content) ≡ value_in format bmp content
value_same Hidden bmp content = ap (hidden_value bmp) (blank_size content)
value_same Amount bmp content = refl
value_same Result bmp content = refl
value_same Text bmp content = refl
value_same Bytes bmp content = refl

-- a field whose objects have these values
abbrev tree_of_values : ℕ → Items → Data
tree_of_values bmp values = of_bmp bmp (named bmp (member (codes "objects") (array values) no_members))

field_same : (field : Field) → field_value (blanked_field field) ≡ field_value field
field_same (plain bmp content) = value_same (format_of bmp) bmp content
field_same (tree bmp objects) = ap (tree_of_values bmp) (objects_same objects)

fields_same : (fields : List Field) → field_values (blanked_fields fields) ≡ field_values fields
fields_same [] = refl
fields_same (field ∷ fields) =
    ap (λ (value : Data). item value (field_values (blanked_fields fields))) (field_same field)
    ∙ ap (λ (values : Items). item (field_value field) values) (fields_same fields)

-- the value of a message with these fields
abbrev listed : Members → Items → Data
listed later values = object (member (codes "fields") (array values) later)

message_same : (from : Direction) (line size : ℕ) (message : Message) → message_value from line size (blanked message) ≡ message_value from line size message
message_same from line size (ack payload) = refl
message_same from line size (nack code payload) = refl
message_same from line size (registration password config None) = refl
message_same from line size (registration password config (Some rest)) =
    ap (λ (values : Items). object (member (codes "config") (byte_value config) (member (codes "currency") (string (four_digits rest.0)) (member (codes "fields") (array values) (about from (registration password config (Some rest)) line size no_members))))) (fields_same rest.1)
message_same from line size (authorisation fields) = ap (listed (about from (authorisation fields) line size no_members)) (fields_same fields)
message_same from line size (reversal password fields) = ap (listed (about from (reversal password fields) line size no_members)) (fields_same fields)
message_same from line size (end_of_day password fields) = ap (listed (about from (end_of_day password fields) line size no_members)) (fields_same fields)
message_same from line size (abort_order fields) = ap (listed (about from (abort_order fields) line size no_members)) (fields_same fields)
message_same from line size (status fields) = ap (listed (about from (status fields) line size no_members)) (fields_same fields)
message_same from line size (intermediate step payload) = refl
message_same from line size (print_line attribute text) = refl
message_same from line size (text_block fields) = ap (listed (about from (text_block fields) line size no_members)) (fields_same fields)
message_same from line size (completion fields) = ap (listed (about from (completion fields) line size no_members)) (fields_same fields)
message_same from line size (abort code payload) = refl
message_same from line size (other high low payload) =
    ap (λ (n : ℕ). object (member (codes "control") (hex_value (high ∷ low ∷ [])) (member (codes "data_size") (count_value n) (about from (other high low []) line size no_members)))) (blank_size payload)

pub safe_values_agree : SafeValuesAgree
safe_values_agree from line size one two same = sym (message_same from line size one) ∙ ap (message_value from line size) same ∙ message_same from line size two
