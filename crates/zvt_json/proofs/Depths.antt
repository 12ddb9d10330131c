-- What a message says is read back: it nests little, and its numbers are small.
use Rattle.std.proofs.Common.{◌≡◌, ℕ, suc, ◌+◌, ◌*◌, ◌^◌, ◌<◌, ◌≤◌, ◌&&◌, if◌then◌else◌, Bool, true, false, max, Some, None, Option, List, [], ◌∷◌, ◌++◌, length, codes, refl, ◌∙◌, ap, arith, length-append}
use Rattle.std.specs.Prelude.{nat_lt}
use Rattle.std.proofs.lemmas.Bool.{and_from, and_parts, lt-ltb, ltb-true}
use Rattle.serde_json.specs.Data.{Data, Members, member, depth, items_depth, members_depth}
use Rattle.zvt_grammar.specs.Reading.{shortest}
use Rattle.zvt_tlv.specs.Grammar.{Objects, none, primitive, constructed}
use Rattle.zvt_tlv.specs.Checks.{is_shallow}
use Rattle.zvt_tlv.proofs.CheckLemmas.{spelled_shallow}
use Rattle.zvt_field.specs.Grammar.{Field, plain, tree, FieldList}
use Rattle.zvt_apdu.specs.Grammar.{Data as Content, IsControl, IsFrameLength, Spells}
use Rattle.zvt_apdu.specs.Message.{Message, ack, nack, registration, authorisation, reversal, end_of_day, abort_order, status, intermediate, print_line, text_block, completion, abort, other}
use Rattle.zvt_field.specs.Shapes.{format_of}
use Rattle.zvt_field.specs.declared.shapes.Format.{Format}
use Rattle.zvt_field.specs.declared.shapes.Format.TheVariants.{Amount, Bytes, Hidden, Result, Text}
use Rattle.zvt_text.specs.MessageTexts.{fields_of}
use Rattle.zvt_text.specs.Meanings.{meaning_of, status_words}
use Rattle.zvt_text.specs.Secrets.{is_secret_tag}
use Rattle.zvt_trace.specs.declared.direction.Direction.{Direction}
use Rattle.zvt_json.specs.Fields.{field_values, hidden_object, object_values, plain_value, primitive_value, result_value, shown_object, words_of, value_in}
use Rattle.zvt_json.specs.Strings.{count_value}
use Rattle.zvt_json.specs.Messages.{about, command_of, first_members, last_members, message_value, with_data, with_name}
use Rattle.zvt_trace.specs.TraceEvent as trace_event
use Rattle.zvt_trace.specs.TraceEvent.{TraceEvent}
use Rattle.zvt_json.specs.Events.{EventValue}
use Rattle.zvt_json.specs.Laws.{NumbersFit}
use Rattle.zvt_json.specs.Reading.{fits, items_fit, members_fit}
use Rattle.zvt_json.proofs.Bounds.{fields_fit}

most : (a b n : ℕ) → a ≤ n → b ≤ n → max a b ≤ n
most a b n p q = omega (arith, p, q)

-- ---- fields

either_depth : (b : Bool) (x y : Data) (n : ℕ) → depth x ≤ n → depth y ≤ n → depth (if b then x else y) ≤ n
either_depth true x y n p q = p
either_depth false x y n p q = q

primitive_depth : (tag content : List ℕ) → depth (primitive_value tag content) ≤ 1
primitive_depth tag content = either_depth (is_secret_tag tag) (hidden_object tag (length content)) (shown_object tag content) 1 (omega arith) (omega arith)

-- objects at a depth
objects_depth : (at : ℕ) (f : Objects) → at ≤ 6 → is_shallow at f ≡ true → items_depth (object_values f) + 2 * at ≤ 13
objects_depth at none most_at h = omega arith
objects_depth at (primitive tag content rest) most_at h =
    let first = primitive_depth tag content in
    let others = objects_depth at rest most_at h in omega (arith, first, others, most_at)
objects_depth at (constructed tag inner rest) most_at h =
    let both = and_parts (nat_lt at 6 && is_shallow (suc at) inner) (is_shallow at rest) h in
    let parts = and_parts (nat_lt at 6) (is_shallow (suc at) inner) both.0 in
    let inside = objects_depth (suc at) inner (omega (arith, ltb-true at 6 parts.0)) parts.1 in
    let others = objects_depth at rest most_at both.1 in omega (arith, inside, others)

coded_depth : (bmp code : ℕ) (meaning : Option (List ℕ)) → meaning ≡ meaning_of code → depth (result_value bmp (code ∷ [])) ≤ 1
coded_depth bmp code None is = rw (← is) (omega arith)
coded_depth bmp code (Some meaning) is = rw (← is) (omega arith)

result_depth : (bmp : ℕ) (content : List ℕ) → depth (result_value bmp content) ≤ 1
result_depth bmp [] = omega arith
result_depth bmp (code ∷ []) = coded_depth bmp code (meaning_of code) refl
result_depth bmp (a ∷ b ∷ more) = omega arith

shown_depth : (format : Format) (bmp : ℕ) (content : List ℕ) → depth (value_in format bmp content) ≤ 1
shown_depth Amount bmp content = omega arith
shown_depth Result bmp content = result_depth bmp content
shown_depth Text bmp content = omega arith
shown_depth Hidden bmp content = omega arith
shown_depth Bytes bmp content = omega arith

plain_depth : (bmp : ℕ) (content : List ℕ) → depth (plain_value bmp content) ≤ 1
plain_depth bmp content = shown_depth (format_of bmp) bmp content

fields_depth : (fields : List Field) (bytes : List ℕ) → FieldList shortest fields bytes → items_depth (field_values fields) ≤ 13
fields_depth [] bytes spelled = omega arith
fields_depth (plain bmp content ∷ fields) bytes (one, after, whole, spelled, more) =
    let first = plain_depth bmp content in
    let others = fields_depth fields after more in most (depth (plain_value bmp content)) (items_depth (field_values fields)) 13 (omega (arith, first)) others
fields_depth (tree bmp objects ∷ fields) bytes (one, after, whole, spelled, more) =
    let first = objects_depth 1 objects (omega arith) (spelled_shallow shortest 1 objects spelled.sized.content spelled.sized.inside) in
    let others = fields_depth fields after more in omega (arith, first, others)

-- ---- messages

-- the fields of a message are spelled in its bytes
pub record HasFields (m : Message) (bytes : List ℕ) : Type 0 where
  pub listed : List ℕ
  pub spelled : FieldList shortest (fields_of m) listed
  pub short : length listed ≤ length bytes

no_fields : (m : Message) (bytes : List ℕ) → fields_of m ≡ [] → HasFields m bytes
no_fields m bytes is = record { listed = []; spelled = rw is refl; short = omega arith }

some_fields : (m : Message) (first listed bytes : List ℕ) → bytes ≡ first ++ listed → FieldList shortest (fields_of m) listed → HasFields m bytes
some_fields m first listed bytes whole spelled = record { listed = listed; spelled = spelled; short = omega (arith, ap length whole, length-append first listed) }

has_fields : (m : Message) (bytes : List ℕ) → Content shortest m bytes → HasFields m bytes
has_fields (ack payload) bytes h = no_fields (ack payload) bytes refl
has_fields (nack code payload) bytes h = no_fields (nack code payload) bytes refl
has_fields (registration password config None) bytes h = no_fields (registration password config None) bytes refl
has_fields (registration password config (Some rest)) bytes h =
    let inside = some_fields (registration password config (Some rest)) h.digits h.listed (h.digits ++ h.listed) refl h.spelled in
    record { listed = inside.listed; spelled = inside.spelled; short = omega (arith, inside.short, ap length h.whole, length-append (password ++ config ∷ []) (h.digits ++ h.listed)) }
has_fields (authorisation fields) bytes (listed, whole, count, are, spelled) = some_fields (authorisation fields) [] listed bytes whole spelled
has_fields (reversal password fields) bytes (listed, whole, count, are, spelled) = some_fields (reversal password fields) password listed bytes whole spelled
has_fields (end_of_day password fields) bytes (listed, whole, count, are, spelled) = some_fields (end_of_day password fields) password listed bytes whole spelled
has_fields (abort_order fields) bytes (listed, whole, count, are, spelled) = some_fields (abort_order fields) [] listed bytes whole spelled
has_fields (status fields) bytes (listed, whole, count, are, spelled) = some_fields (status fields) [] listed bytes whole spelled
has_fields (intermediate step payload) bytes h = no_fields (intermediate step payload) bytes refl
has_fields (print_line attribute text) bytes h = no_fields (print_line attribute text) bytes refl
has_fields (text_block fields) bytes (listed, whole, count, are, spelled) = some_fields (text_block fields) [] listed bytes whole spelled
has_fields (completion fields) bytes (listed, whole, count, are, spelled) = some_fields (completion fields) [] listed bytes whole spelled
has_fields (abort code payload) bytes h = no_fields (abort code payload) bytes refl
has_fields (other high low payload) bytes h = no_fields (other high low payload) bytes refl

-- the numbers in the members of a message
data_fit : (payload : List ℕ) (later : Members) → members_fit later ≡ true → members_fit (with_data payload later) ≡ true
data_fit [] later h = h
data_fit (byte ∷ bytes) later h = h

-- the size of the data of a message outside the profile
abbrev data_size : Message → ℕ
data_size (other high low payload) = length payload
data_size m = 0

data_short : (m : Message) (bytes : List ℕ) → Content shortest m bytes → data_size m ≤ length bytes
data_short (other high low payload) bytes h = omega (arith, ap length h.0)
data_short m bytes h = omega arith

first_fit : (m : Message) (later : Members) → items_fit (field_values (fields_of m)) ≡ true → data_size m < 2 ^ 64 → members_fit later ≡ true → members_fit (first_members m later) ≡ true
first_fit (ack payload) later f small h = data_fit payload later h
first_fit (nack code payload) later f small h = data_fit payload later h
first_fit (registration password config None) later f small h = h
first_fit (registration password config (Some rest)) later f small h = and_from (items_fit (field_values rest.1)) (members_fit later) f h
first_fit (authorisation fields) later f small h = and_from (items_fit (field_values fields)) (members_fit later) f h
first_fit (reversal password fields) later f small h = and_from (items_fit (field_values fields)) (members_fit later) f h
first_fit (end_of_day password fields) later f small h = and_from (items_fit (field_values fields)) (members_fit later) f h
first_fit (abort_order fields) later f small h = and_from (items_fit (field_values fields)) (members_fit later) f h
first_fit (status fields) later f small h = and_from (items_fit (field_values fields)) (members_fit later) f h
first_fit (intermediate step payload) later f small h = data_fit payload later h
first_fit (print_line attribute text) later f small h = h
first_fit (text_block fields) later f small h = and_from (items_fit (field_values fields)) (members_fit later) f h
first_fit (completion fields) later f small h = and_from (items_fit (field_values fields)) (members_fit later) f h
first_fit (abort code payload) later f small h = data_fit payload later h
first_fit (other high low payload) later f small h = and_from (nat_lt (length payload) (2 ^ 64)) (members_fit later) (lt-ltb (length payload) (2 ^ 64) small) h

-- the last member is flat, and has no number
flat_words : (meaning : Option (List ℕ)) → (members_fit (words_of meaning) ≡ true) × (members_depth (words_of meaning) ≡ 0)
flat_words None = (refl, refl)
flat_words (Some meaning) = (refl, refl)

flat_last : (m : Message) → (members_fit (last_members m) ≡ true) × (members_depth (last_members m) ≡ 0)
flat_last (ack payload) = (refl, refl)
flat_last (nack code payload) = (refl, refl)
flat_last (registration password config rest) = (refl, refl)
flat_last (authorisation fields) = (refl, refl)
flat_last (reversal password fields) = (refl, refl)
flat_last (end_of_day password fields) = (refl, refl)
flat_last (abort_order fields) = (refl, refl)
flat_last (status fields) = (refl, refl)
flat_last (intermediate step payload) = let words = flat_words (status_words step) in (words.0, omega (arith, words.1))
flat_last (print_line attribute text) = (refl, refl)
flat_last (text_block fields) = (refl, refl)
flat_last (completion fields) = (refl, refl)
flat_last (abort code payload) = flat_words (meaning_of code)
flat_last (other high low payload) = (refl, refl)

-- a name has no number, and is flat
name_fits : (name : Option (List ℕ)) (later : Members) → members_fit (with_name name later) ≡ members_fit later
name_fits None later = refl
name_fits (Some name) later = refl

name_depth : (name : Option (List ℕ)) (later : Members) → members_depth (with_name name later) ≡ members_depth later
name_depth None later = refl
name_depth (Some name) later = omega arith

about_fits : (from : Direction) (m : Message) (line size : ℕ) (later : Members) → line < 2 ^ 64 → size < 2 ^ 64 → members_fit later ≡ true → members_fit (about from m line size later) ≡ true
about_fits from m line size later a b h =
    let sized = member (codes "size") (count_value size) later in
    and_from (nat_lt line (2 ^ 64)) (members_fit (with_name (command_of m) sized)) (lt-ltb line (2 ^ 64) a)
    (name_fits (command_of m) sized ∙ and_from (nat_lt size (2 ^ 64)) (members_fit later) (lt-ltb size (2 ^ 64) b) h)

-- the depth of the members of a message
data_depth : (payload : List ℕ) (later : Members) → members_depth later ≤ 15 → members_depth (with_data payload later) ≤ 15
data_depth [] later h = h
data_depth (byte ∷ bytes) later h = omega (arith, h)

listed_depth : (fields : List Field) (later : Members) → items_depth (field_values fields) ≤ 13 → members_depth later ≤ 15 → max (suc (items_depth (field_values fields))) (members_depth later) ≤ 15
listed_depth fields later f h = omega (arith, f, h)

first_depth : (m : Message) (later : Members) → items_depth (field_values (fields_of m)) ≤ 13 → members_depth later ≤ 15 → members_depth (first_members m later) ≤ 15
first_depth (ack payload) later f h = data_depth payload later h
first_depth (nack code payload) later f h = let inside = data_depth payload later h in omega (arith, inside)
first_depth (registration password config None) later f h = omega (arith, h)
first_depth (registration password config (Some rest)) later f h = let inside = listed_depth rest.1 later f h in omega (arith, inside)
first_depth (authorisation fields) later f h = listed_depth fields later f h
first_depth (reversal password fields) later f h = listed_depth fields later f h
first_depth (end_of_day password fields) later f h = listed_depth fields later f h
first_depth (abort_order fields) later f h = listed_depth fields later f h
first_depth (status fields) later f h = listed_depth fields later f h
first_depth (intermediate step payload) later f h = data_depth payload later h
first_depth (print_line attribute text) later f h = omega (arith, h)
first_depth (text_block fields) later f h = listed_depth fields later f h
first_depth (completion fields) later f h = listed_depth fields later f h
first_depth (abort code payload) later f h = let inside = data_depth payload later h in omega (arith, inside)
first_depth (other high low payload) later f h = omega (arith, h)

-- a message is short
control_short : (m : Message) (control : List ℕ) → IsControl m control → length control ≤ 2
control_short (ack payload) control h = omega (arith, ap length h)
control_short (nack code payload) control h = omega (arith, ap length h.0)
control_short (registration password config rest) control h = omega (arith, ap length h)
control_short (authorisation fields) control h = omega (arith, ap length h)
control_short (reversal password fields) control h = omega (arith, ap length h)
control_short (end_of_day password fields) control h = omega (arith, ap length h)
control_short (abort_order fields) control h = omega (arith, ap length h)
control_short (status fields) control h = omega (arith, ap length h)
control_short (intermediate step payload) control h = omega (arith, ap length h)
control_short (print_line attribute text) control h = omega (arith, ap length h)
control_short (text_block fields) control h = omega (arith, ap length h)
control_short (completion fields) control h = omega (arith, ap length h)
control_short (abort code payload) control h = omega (arith, ap length h)
control_short (other high low payload) control h = omega (arith, ap length h.0)

size_short : (n : ℕ) (size : List ℕ) → IsFrameLength shortest n size → (n < 65536) × (length size ≤ 3)
size_short n [] h = absurd h
size_short n (a ∷ []) h = (omega (arith, h.0), omega arith)
size_short n (a ∷ b ∷ []) h = absurd h
size_short n (a ∷ low ∷ high ∷ []) h = (omega arith, omega arith)
size_short n (a ∷ b ∷ c ∷ d ∷ more) h = absurd h

message_short : (m : Message) (bytes : List ℕ) → Spells shortest m bytes → length bytes < 65541
message_short m bytes s =
    let control = control_short m s.control s.is_control in
    let size = size_short (length s.content) s.size s.is_size in
    omega (arith, ap length s.whole, length-append s.control (s.size ++ s.content), length-append s.size s.content, control, size.0, size.1)

pub message_fits : (from : Direction) (line : ℕ) (m : Message) (bytes : List ℕ) → Spells shortest m bytes → line < 2 ^ 64 → (fits (message_value from line (length bytes) m) ≡ true) × (depth (message_value from line (length bytes) m) ≤ 127)
message_fits from line m bytes s small =
    let inside = has_fields m s.content s.is_content in
    let short = message_short m bytes s in
    let size = size_short (length s.content) s.size s.is_size in
    let payload = data_short m s.content s.is_content in
    let last = flat_last m in
    let named = name_depth (command_of m) (member (codes "size") (count_value (length bytes)) (last_members m)) in
    let about_depth : members_depth (about from m line (length bytes) (last_members m)) ≤ 15 = omega (arith, named, last.1) in
    let depths = first_depth m (about from m line (length bytes) (last_members m)) (fields_depth (fields_of m) inside.listed inside.spelled) about_depth in (
      first_fit m (about from m line (length bytes) (last_members m)) (fields_fit (fields_of m) inside.listed inside.spelled (omega (arith, inside.short, size.0))) (omega (arith, payload, size.0))
          (about_fits from m line (length bytes) (last_members m) small (omega (arith, short)) last.0),
      omega (arith, depths),
    )

-- the same value, by other words
along : (a b : Data) → a ≡ b → (fits b ≡ true) × (depth b ≤ 127) → (fits a ≡ true) × (depth a ≤ 127)
along a b same h = (ap fits same ∙ h.0, omega (arith, ap depth same, h.1))

number : (n : ℕ) → n < 2 ^ 64 → nat_lt n (2 ^ 64) && true ≡ true
number n small = ap (λ (b : Bool). b && true) (lt-ltb n (2 ^ 64) small)

pub event_fits : (line : ℕ) (event : TraceEvent) (value : Data) → EventValue line event value → line < 2 ^ 64 → NumbersFit event → (fits value ≡ true) × (depth value ≤ 127)
event_fits line (trace_event.message from m) value (bytes, spelled, is) small numbers = along value _ is (message_fits from line m bytes spelled small)
event_fits line (trace_event.refused from before byte why) value is small numbers =
    let inside : (nat_lt (length before) (2 ^ 64) && true) && true ≡ true = ap (λ (b : Bool). b && true) (number (length before) numbers) in
    along value _ is (and_from (nat_lt line (2 ^ 64)) ((nat_lt (length before) (2 ^ 64) && true) && true) (lt-ltb line (2 ^ 64) small) inside, omega arith)
event_fits line (trace_event.unread from) value is small numbers = along value _ is (number line small, omega arith)
event_fits line (trace_event.resumed from size) value is small numbers =
    along value _ is (and_from (nat_lt line (2 ^ 64)) (nat_lt size (2 ^ 64) && true) (lt-ltb line (2 ^ 64) small) (number size numbers), omega arith)
event_fits line (trace_event.cut_off from bytes) value is small numbers =
    let inside : (nat_lt (length bytes) (2 ^ 64) && true) && true ≡ true = ap (λ (b : Bool). b && true) (number (length bytes) numbers) in
    along value _ is (and_from (nat_lt line (2 ^ 64)) ((nat_lt (length bytes) (2 ^ 64) && true) && true) (lt-ltb line (2 ^ 64) small) inside, omega arith)
event_fits line trace_event.lost value is small numbers = along value _ is (number line small, omega arith)
