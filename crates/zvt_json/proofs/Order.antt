-- The members of what is written come in the order of their names.
use Rattle.std.proofs.Common.{◌≡◌, ℕ, ◌&&◌, if◌then◌else◌, Bool, true, false, Some, None, Option, List, [], ◌∷◌, length, refl, ◌∙◌, ap}
use Rattle.std.proofs.lemmas.Bool.{and_from}
use Rattle.serde_json.specs.Data.{Data}
use Rattle.zvt_tlv.specs.Grammar.{Objects, none, primitive, constructed}
use Rattle.zvt_field.specs.Grammar.{Field, plain, tree}
use Rattle.zvt_apdu.specs.Message.{Message, ack, nack, registration, authorisation, reversal, end_of_day, abort_order, status, intermediate, print_line, text_block, completion, abort, other}
use Rattle.zvt_field.specs.Shapes.{format_of}
use Rattle.zvt_field.specs.declared.shapes.Format.{Format}
use Rattle.zvt_field.specs.declared.shapes.Format.TheVariants.{Amount, Bytes, Hidden, Result, Text}
use Rattle.zvt_text.specs.Meanings.{command_name, meaning_of, status_words}
use Rattle.zvt_text.specs.Secrets.{is_secret_tag}
use Rattle.zvt_trace.specs.declared.direction.Direction.{Direction}
use Rattle.zvt_trace.specs.TraceEvent as trace_event
use Rattle.zvt_trace.specs.TraceEvent.{TraceEvent}
use Rattle.zvt_json.specs.Fields.{field_value, field_values, hidden_object, object_values, primitive_value, result_value, shown_object, value_in}
use Rattle.zvt_json.specs.Messages.{message_value}
use Rattle.zvt_json.specs.Events.{EventValue}
use Rattle.zvt_json.specs.Reading.{items_ordered, ordered}

object_ordered : (secret : Bool) (tag content : List ℕ) → ordered (if secret then hidden_object tag (length content) else shown_object tag content) ≡ true
object_ordered true tag content = refl
object_ordered false tag content = refl

objects_ordered : (f : Objects) → items_ordered (object_values f) ≡ true
objects_ordered none = refl
objects_ordered (primitive tag content rest) = and_from (ordered (primitive_value tag content)) (items_ordered (object_values rest)) (object_ordered (is_secret_tag tag) tag content) (objects_ordered rest)
objects_ordered (constructed tag inner rest) = ap (λ (b : Bool). (b && true) && items_ordered (object_values rest)) (objects_ordered inner) ∙ objects_ordered rest

coded_ordered : (bmp code : ℕ) (meaning : Option (List ℕ)) → meaning ≡ meaning_of code → ordered (result_value bmp (code ∷ [])) ≡ true
coded_ordered bmp code None is = rw (← is) refl
coded_ordered bmp code (Some meaning) is = rw (← is) refl

result_ordered : (bmp : ℕ) (content : List ℕ) → ordered (result_value bmp content) ≡ true
result_ordered bmp [] = refl
result_ordered bmp (code ∷ []) = coded_ordered bmp code (meaning_of code) refl
result_ordered bmp (a ∷ b ∷ more) = refl

shown_ordered : (format : Format) (bmp : ℕ) (content : List ℕ) → ordered (value_in format bmp content) ≡ true
shown_ordered Amount bmp content = refl
shown_ordered Result bmp content = result_ordered bmp content
shown_ordered Text bmp content = refl
shown_ordered Hidden bmp content = refl
shown_ordered Bytes bmp content = refl

field_ordered : (f : Field) → ordered (field_value f) ≡ true
field_ordered (plain bmp content) = shown_ordered (format_of bmp) bmp content
field_ordered (tree bmp objects) = ap (λ (b : Bool). b && true) (objects_ordered objects)

fields_ordered : (fields : List Field) → items_ordered (field_values fields) ≡ true
fields_ordered [] = refl
fields_ordered (field ∷ fields) = and_from (ordered (field_value field)) (items_ordered (field_values fields)) (field_ordered field) (fields_ordered fields)

-- fields, and what comes after them
listed : (fields : List Field) → items_ordered (field_values fields) && true ≡ true
listed fields = ap (λ (b : Bool). b && true) (fields_ordered fields)

given_up : (from : Direction) (line size code : ℕ) (payload : List ℕ) (meaning : Option (List ℕ)) → meaning ≡ meaning_of code → ordered (message_value from line size (abort code payload)) ≡ true
given_up from line size code [] None is = rw (← is) refl
given_up from line size code [] (Some meaning) is = rw (← is) refl
given_up from line size code (byte ∷ bytes) None is = rw (← is) refl
given_up from line size code (byte ∷ bytes) (Some meaning) is = rw (← is) refl

waiting : (from : Direction) (line size step : ℕ) (payload : List ℕ) (words : Option (List ℕ)) → words ≡ status_words step → ordered (message_value from line size (intermediate step payload)) ≡ true
waiting from line size step [] None is = rw (← is) refl
waiting from line size step [] (Some words) is = rw (← is) refl
waiting from line size step (byte ∷ bytes) None is = rw (← is) refl
waiting from line size step (byte ∷ bytes) (Some words) is = rw (← is) refl

unknown : (from : Direction) (line size high low : ℕ) (payload : List ℕ) (name : Option (List ℕ)) → name ≡ command_name high low → ordered (message_value from line size (other high low payload)) ≡ true
unknown from line size high low payload None is = rw (← is) refl
unknown from line size high low payload (Some name) is = rw (← is) refl

message_ordered : (from : Direction) (line size : ℕ) (m : Message) → ordered (message_value from line size m) ≡ true
message_ordered from line size (ack []) = refl
message_ordered from line size (ack (byte ∷ bytes)) = refl
message_ordered from line size (nack code []) = refl
message_ordered from line size (nack code (byte ∷ bytes)) = refl
message_ordered from line size (registration password config None) = refl
message_ordered from line size (registration password config (Some rest)) = listed rest.1
message_ordered from line size (authorisation fields) = listed fields
message_ordered from line size (reversal password fields) = listed fields
message_ordered from line size (end_of_day password fields) = listed fields
message_ordered from line size (abort_order fields) = listed fields
message_ordered from line size (status fields) = listed fields
message_ordered from line size (intermediate step payload) = waiting from line size step payload (status_words step) refl
message_ordered from line size (print_line attribute text) = refl
message_ordered from line size (text_block fields) = listed fields
message_ordered from line size (completion fields) = listed fields
message_ordered from line size (abort code payload) = given_up from line size code payload (meaning_of code) refl
message_ordered from line size (other high low payload) = unknown from line size high low payload (command_name high low) refl

-- the same value, by other words
along : (a b : Data) → a ≡ b → ordered b ≡ true → ordered a ≡ true
along a b same h = ap ordered same ∙ h

pub event_ordered : (line : ℕ) (event : TraceEvent) (value : Data) → EventValue line event value → ordered value ≡ true
event_ordered line (trace_event.message from m) value is = along value _ is.2 (message_ordered from line (length is.0) m)
event_ordered line (trace_event.refused from before byte why) value is = along value _ is refl
event_ordered line (trace_event.unread from) value is = along value _ is refl
event_ordered line (trace_event.resumed from size) value is = along value _ is refl
event_ordered line (trace_event.cut_off from bytes) value is = along value _ is refl
event_ordered line trace_event.lost value is = along value _ is refl
