-- Only the size of what is hidden is said.
use Rattle.std.proofs.Common.{◌≡◌, ℕ, ◌+◌, ◌&&◌, Bool, true, false, List, [], ◌∷◌, ◌++◌, Some, None, if◌then◌else◌, length, refl, sym, ◌∙◌, ap, codes}
use Rattle.std.proofs.lemmas.List.{length-replicate}
use Rattle.std.specs.Fmt.{decimal}
use Rattle.hex.specs.Hex.{encode_upper}
use Rattle.zvt_tlv.specs.Grammar.{Objects, none, primitive, constructed}
use Rattle.zvt_field.specs.Grammar.{Field, plain, tree}
use Rattle.zvt_field.specs.Shapes.{format_of}
use Rattle.zvt_field.specs.declared.shapes.Format.{Format}
use Rattle.zvt_field.specs.declared.shapes.Format.TheVariants.{Amount, Bytes, Hidden, Result, Text}
use Rattle.zvt_apdu.specs.Message.{Message, ack, nack, registration, authorisation, reversal, end_of_day, abort_order, status, intermediate, print_line, text_block, completion, abort, other}
use Rattle.zvt_text.specs.Bytes.{hex_or_dash}
use Rattle.zvt_text.specs.Meanings.{command_name, tag_name}
use Rattle.zvt_text.specs.Notes.{note, note_in}
use Rattle.zvt_text.specs.Lines.{constructed_text, content_text, field_line, field_lines, named_text, object_head, object_lines, object_text, value_in}
use Rattle.zvt_text.specs.Laws.{PasswordsStayHidden, SafeTextsAgree, SecretsStayHidden}
use Rattle.zvt_text.specs.MessageTexts.{data_text, head_text, hidden_data, said, unknown_text}
use Rattle.zvt_text.specs.Secrets.{blank, blanked, blanked_field, blanked_fields, blanked_in, blanked_objects, hidden_text, is_secret_tag}
use Rattle.zvt_text.specs.declared.text_options.TextOptions.{TextOptions}

pub passwords_stay_hidden : PasswordsStayHidden
passwords_stay_hidden options one two config rest fields = (refl, refl, refl)

-- two fields of one line say the same wherever they stand
alike : (options : TextOptions) (f g : Field) (before after : List Field) → field_line options f ≡ field_line options g → field_lines options (before ++ f ∷ after) ≡ field_lines options (before ++ g ∷ after)
alike options f g [] after e = ap (λ (line : List ℕ). line ++ field_lines options after) e
alike options f g (first ∷ before) after e = ap (λ (lines : List ℕ). field_line options first ++ lines) (alike options f g before after e)

-- the line of a field that is shown so
abbrev line_in : TextOptions → ℕ → List ℕ → Format → List ℕ
line_in options bmp content format = named_text bmp ++ 32 ∷ (value_in format content ++ note options (note_in format bmp content)) ++ 10 ∷ []

abbrev hidden_line : TextOptions → ℕ → ℕ → List ℕ
hidden_line options bmp size = named_text bmp ++ 32 ∷ ((codes "hidden " ++ decimal size) ++ note options None) ++ 10 ∷ []

pub secrets_stay_hidden : SecretsStayHidden
secrets_stay_hidden bmp is options before after one two e =
    alike options (plain bmp one) (plain bmp two) before after (ap (line_in options bmp one) is ∙ ap (hidden_line options bmp) e ∙ sym (ap (line_in options bmp two) is))

-- ---- what is blanked is said in the same way

pub blank_size : (content : List ℕ) → length (blank content) ≡ length content
blank_size content = length-replicate (length content) 0

blank_hidden : (content : List ℕ) → hidden_text (blank content) ≡ hidden_text content
blank_hidden content = ap (λ (size : ℕ). codes "hidden " ++ decimal size) (blank_size content)

-- an object's content, where it is known whether its tag is secret
abbrev object_in : Bool → List ℕ → List ℕ
object_in secret content = if secret then hidden_text content else hex_or_dash content

secret_same : (secret : Bool) (content : List ℕ) → object_in secret (if secret then blank content else content) ≡ object_in secret content
secret_same true content = blank_hidden content
secret_same false content = refl

content_in : (options : TextOptions) → options.safe ≡ true → (tag content : List ℕ) → content_text options tag content ≡ object_in (is_secret_tag tag) content
content_in options safe tag content = ap (λ (b : Bool). if b && is_secret_tag tag then hidden_text content else hex_or_dash content) safe

object_same : (options : TextOptions) → options.safe ≡ true → (tag content : List ℕ) → object_text options tag (if is_secret_tag tag then blank content else content) ≡ object_text options tag content
object_same options safe tag content =
    ap (λ (text : List ℕ). text ++ note options (tag_name tag)) (content_in options safe tag (if is_secret_tag tag then blank content else content) ∙ secret_same (is_secret_tag tag) content ∙ sym (content_in options safe tag content))

objects_same : (options : TextOptions) → options.safe ≡ true → (depth : ℕ) (objects : Objects) → object_lines options depth (blanked_objects objects) ≡ object_lines options depth objects
objects_same options safe depth none = refl
objects_same options safe depth (primitive tag content rest) =
    ap (λ (text : List ℕ). object_head depth tag ++ text ++ 10 ∷ object_lines options depth (blanked_objects rest)) (object_same options safe tag content)
    ∙ ap (λ (lines : List ℕ). object_head depth tag ++ object_text options tag content ++ 10 ∷ lines) (objects_same options safe depth rest)
objects_same options safe depth (constructed tag inner rest) =
    ap (λ (lines : List ℕ). object_head depth tag ++ constructed_text options tag ++ 10 ∷ lines ++ object_lines options depth (blanked_objects rest)) (objects_same options safe (depth + 1) inner)
    ∙ ap (λ (lines : List ℕ). object_head depth tag ++ constructed_text options tag ++ 10 ∷ object_lines options (depth + 1) inner ++ lines) (objects_same options safe depth rest)

-- a value and its words
abbrev valued : TextOptions → ℕ → Format → List ℕ → List ℕ
valued options bmp format content = value_in format content ++ note options (note_in format bmp content)

value_same : (options : TextOptions) (bmp : ℕ) (format : Format) (content : List ℕ) → valued options bmp format (blanked_in format content) ≡ valued options bmp format content
value_same options bmp Hidden content = ap (λ (text : List ℕ). text ++ note options None) (blank_hidden content)
value_same options bmp Amount content = refl
value_same options bmp Result content = refl
value_same options bmp Text content = refl
value_same options bmp Bytes content = refl

field_same : (options : TextOptions) → options.safe ≡ true → (field : Field) → field_line options (blanked_field field) ≡ field_line options field
field_same options safe (plain bmp content) = ap (λ (text : List ℕ). named_text bmp ++ 32 ∷ text ++ 10 ∷ []) (value_same options bmp (format_of bmp) content)
field_same options safe (tree bmp objects) = ap (λ (lines : List ℕ). named_text bmp ++ 10 ∷ lines) (objects_same options safe 1 objects)

fields_same : (options : TextOptions) → options.safe ≡ true → (fields : List Field) → field_lines options (blanked_fields fields) ≡ field_lines options fields
fields_same options safe [] = refl
fields_same options safe (field ∷ fields) =
    ap (λ (line : List ℕ). line ++ field_lines options (blanked_fields fields)) (field_same options safe field)
    ∙ ap (λ (lines : List ℕ). field_line options field ++ lines) (fields_same options safe fields)

data_same : (payload : List ℕ) → hidden_data (blank payload) ≡ hidden_data payload
data_same [] = refl
data_same (byte ∷ bytes) = ap (λ (text : List ℕ). codes " data " ++ text) (blank_hidden (byte ∷ bytes))

unknown_in : (options : TextOptions) → options.safe ≡ true → (payload : List ℕ) → unknown_text options payload ≡ hidden_data payload
unknown_in options safe payload = ap (λ (b : Bool). if b then hidden_data payload else data_text payload) safe

unknown_same : (options : TextOptions) → options.safe ≡ true → (payload : List ℕ) → unknown_text options (blank payload) ≡ unknown_text options payload
unknown_same options safe payload = unknown_in options safe (blank payload) ∙ data_same payload ∙ sym (unknown_in options safe payload)

-- the text of a message with these fields
lines_same : (options : TextOptions) → options.safe ≡ true → (head : List ℕ) (fields : List Field) → head ++ 10 ∷ field_lines options (blanked_fields fields) ≡ head ++ 10 ∷ field_lines options fields
lines_same options safe head fields = ap (λ (lines : List ℕ). head ++ 10 ∷ lines) (fields_same options safe fields)

message_same : (options : TextOptions) → options.safe ≡ true → (message : Message) → said options (blanked message) ≡ said options message
message_same options safe (ack payload) = refl
message_same options safe (nack code payload) = refl
message_same options safe (registration password config None) = refl
message_same options safe (registration password config (Some rest)) = lines_same options safe (head_text options (registration password config (Some rest))) rest.1
message_same options safe (authorisation fields) = lines_same options safe (head_text options (authorisation fields)) fields
message_same options safe (reversal password fields) = lines_same options safe (head_text options (reversal password fields)) fields
message_same options safe (end_of_day password fields) = lines_same options safe (head_text options (end_of_day password fields)) fields
message_same options safe (abort_order fields) = lines_same options safe (head_text options (abort_order fields)) fields
message_same options safe (status fields) = lines_same options safe (head_text options (status fields)) fields
message_same options safe (intermediate step payload) = refl
message_same options safe (print_line attribute text) = refl
message_same options safe (text_block fields) = lines_same options safe (head_text options (text_block fields)) fields
message_same options safe (completion fields) = lines_same options safe (head_text options (completion fields)) fields
message_same options safe (abort code payload) = refl
message_same options safe (other high low payload) =
    ap (λ (text : List ℕ). ((codes "Other" ++ 32 ∷ encode_upper (high ∷ low ∷ []) ++ text) ++ note options (command_name high low)) ++ 10 ∷ []) (unknown_same options safe payload)

pub safe_texts_agree : SafeTextsAgree
safe_texts_agree options safe one two same = sym (message_same options safe one) ∙ ap (said options) same ∙ message_same options safe two
