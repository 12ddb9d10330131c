-- The JSON of fields, and of the objects of a container. The members of an object come in the order of their names.
use Rattle.std.specs.Prelude.{ℕ, if◌then◌else◌, List, [], ◌∷◌, length, Option, Some, None, unwrap_or, codes}
use Rattle.serde_json.specs.Data.{Data, string, array, object, Items, no_items, item, Members, no_members, member}
use Rattle.zvt_bcd.specs.Digits.{number_of}
use Rattle.zvt_tlv.specs.Grammar.{Objects, none, primitive, constructed}
use Rattle.zvt_field.specs.Grammar.{Field, plain, tree}
use Rattle.zvt_field.specs.Shapes.{format_of, name_of}
use Rattle.zvt_field.specs.declared.shapes.Format.{Format}
use Rattle.zvt_field.specs.declared.shapes.Format.TheVariants.{Amount, Bytes, Hidden, Result, Text}
use Rattle.zvt_text.specs.Meanings.{meaning_of}
use Rattle.zvt_text.specs.Secrets.{is_secret_tag}
use Rattle.zvt_json.specs.Strings.{byte_value, count_value, hex_value, text_value}

-- the last member of an object
abbrev pub tag_member : List ℕ → Members
tag_member tag = member (codes "tag") (hex_value tag) no_members

abbrev pub shown_object : (tag content : List ℕ) → Data
shown_object tag content = object (member (codes "content") (hex_value content) (tag_member tag))

-- only the size of an object with card data
abbrev pub hidden_object : (tag : List ℕ) → (size : ℕ) → Data
hidden_object tag size = object (member (codes "hidden") (count_value size) (tag_member tag))

abbrev pub primitive_value : (tag content : List ℕ) → Data
primitive_value tag content = if is_secret_tag tag then hidden_object tag (length content) else shown_object tag content

abbrev pub constructed_value : List ℕ → Items → Data
constructed_value tag inner = object (member (codes "objects") (array inner) (tag_member tag))

-- an object for each object, in order
abbrev pub object_values : Objects → Items
object_values none = no_items
object_values (primitive tag content rest) = item (primitive_value tag content) (object_values rest)
object_values (constructed tag inner rest) = item (constructed_value tag (object_values inner)) (object_values rest)

-- the words of a code or a status, if it has some
abbrev pub words_of : Option (List ℕ) → Members
words_of None = no_members
words_of (Some meaning) = member (codes "words") (string meaning) no_members

abbrev pub field_name : ℕ → List ℕ
field_name bmp = unwrap_or (name_of bmp) []

-- the name of a field, and the text after it
abbrev pub named : ℕ → Members → Members
named bmp later = member (codes "name") (string (field_name bmp)) later

-- a field of that BMP
abbrev pub of_bmp : ℕ → Members → Data
of_bmp bmp later = object (member (codes "bmp") (byte_value bmp) later)

abbrev pub content_value : ℕ → List ℕ → Data
content_value bmp content = of_bmp bmp (member (codes "content") (hex_value content) (named bmp no_members))

abbrev pub result_value : ℕ → List ℕ → Data
result_value bmp (code ∷ []) = of_bmp bmp (member (codes "code") (byte_value code) (named bmp (words_of (meaning_of code))))
result_value bmp content = content_value bmp content

abbrev pub amount_value : ℕ → List ℕ → Data
amount_value bmp digits = of_bmp bmp (named bmp (member (codes "value") (count_value (number_of digits)) no_members))

abbrev pub quoted_value : ℕ → List ℕ → Data
quoted_value bmp content = of_bmp bmp (named bmp (member (codes "text") (text_value content) no_members))

-- only the size of a hidden field
abbrev pub hidden_value : ℕ → ℕ → Data
hidden_value bmp size = of_bmp bmp (member (codes "hidden") (count_value size) (named bmp no_members))

-- a field whose content is bytes
abbrev pub value_in : Format → ℕ → List ℕ → Data
value_in Amount bmp content = amount_value bmp content
value_in Result bmp content = result_value bmp content
value_in Text bmp content = quoted_value bmp content
value_in Hidden bmp content = hidden_value bmp (length content)
value_in Bytes bmp content = content_value bmp content

abbrev pub plain_value : ℕ → List ℕ → Data
plain_value bmp content = value_in (format_of bmp) bmp content

abbrev pub tree_value : ℕ → Objects → Data
tree_value bmp objects = of_bmp bmp (named bmp (member (codes "objects") (array (object_values objects)) no_members))

abbrev pub field_value : Field → Data
field_value (plain bmp content) = plain_value bmp content
field_value (tree bmp objects) = tree_value bmp objects

-- an object for each field, in order
abbrev pub field_values : List Field → Items
field_values [] = no_items
field_values (field ∷ fields) = item (field_value field) (field_values fields)
