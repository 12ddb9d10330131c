-- The lines of fields, and of the objects of a container.
use Rattle.std.specs.Prelude.{ℕ, ◌+◌, ◌*◌, List, [], ◌∷◌, ◌++◌, if◌then◌else◌, replicate, unwrap_or, codes}
use Rattle.std.specs.List.{flat_map}
use Rattle.std.specs.Fmt.{decimal}
use Rattle.hex.specs.Hex.{encode_upper}
use Rattle.zvt_bcd.specs.Digits.{number_of}
use Rattle.zvt_tlv.specs.Grammar.{Objects, none, primitive, constructed}
use Rattle.zvt_field.specs.Grammar.{Field, plain, tree}
use Rattle.zvt_field.specs.Shapes.{format_of, name_of}
use Rattle.zvt_field.specs.declared.shapes.Format.{Format}
use Rattle.zvt_field.specs.declared.shapes.Format.TheVariants.{Amount, Bytes, Hidden, Result, Text}
use Rattle.zvt_text.specs.Bytes.{hex_of, hex_or_dash, quoted}
use Rattle.zvt_text.specs.Results.{result_words}
use Rattle.zvt_text.specs.Meanings.{tag_name}
use Rattle.zvt_text.specs.Notes.{note, value_note}
use Rattle.zvt_text.specs.Secrets.{hidden_text, hides_tag}
use Rattle.zvt_text.specs.declared.text_options.TextOptions.{TextOptions}

abbrev pub result_text : List ℕ → List ℕ
result_text (code ∷ []) = result_words code
result_text content = hex_or_dash content

-- the value of a field whose content is bytes; of what is hidden the size alone
abbrev pub value_in : Format → List ℕ → List ℕ
value_in Amount content = decimal (number_of content)
value_in Result content = result_text content
value_in Text content = quoted content
value_in Hidden content = hidden_text content
value_in Bytes content = hex_or_dash content

abbrev pub value_text : ℕ → List ℕ → List ℕ
value_text bmp content = value_in (format_of bmp) content

-- what comes before an object's content
abbrev pub object_head : ℕ → List ℕ → List ℕ
object_head depth tag = replicate (2 + 2 * depth) 32 ++ encode_upper tag ++ 32 ∷ []

-- a value, and its words in an explained text
abbrev pub noted_value : TextOptions → ℕ → List ℕ → List ℕ
noted_value options bmp content = value_text bmp content ++ note options (value_note bmp content)

-- an object's content, or its size
abbrev pub content_text : TextOptions → (tag content : List ℕ) → List ℕ
content_text options tag content = if hides_tag options tag then hidden_text content else hex_or_dash content

abbrev pub object_text : TextOptions → (tag content : List ℕ) → List ℕ
object_text options tag content = content_text options tag content ++ note options (tag_name tag)

abbrev pub constructed_text : TextOptions → List ℕ → List ℕ
constructed_text options tag = codes "constructed" ++ note options (tag_name tag)

-- a line for each object, in order; the objects in a constructed one follow its line, one depth more
abbrev pub object_lines : TextOptions → ℕ → Objects → List ℕ
object_lines options depth none = []
object_lines options depth (primitive tag content rest) = object_head depth tag ++ object_text options tag content ++ 10 ∷ object_lines options depth rest
object_lines options depth (constructed tag inner rest) =
    object_head depth tag ++ constructed_text options tag ++ 10 ∷ object_lines options (depth + 1) inner ++ object_lines options depth rest

-- a field's BMP and its name
abbrev pub named_text : ℕ → List ℕ
named_text bmp = codes "  " ++ hex_of bmp ++ 32 ∷ unwrap_or (name_of bmp) []

abbrev pub field_line : TextOptions → Field → List ℕ
field_line options (plain bmp content) = named_text bmp ++ 32 ∷ noted_value options bmp content ++ 10 ∷ []
field_line options (tree bmp objects) = named_text bmp ++ 10 ∷ object_lines options 1 objects

abbrev pub field_lines : TextOptions → List Field → List ℕ
field_lines options = flat_map (field_line options)
