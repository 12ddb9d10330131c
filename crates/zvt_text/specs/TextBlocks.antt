-- The lines of a text block, and the type of its receipt (PA00P015, TLV container: 25 print texts, 07 text line, 1F07 receipt type).
use Rattle.std.specs.Prelude.{◌≡◌, ℕ, Bool, false, ◌==◌, ◌&&◌, if◌then◌else◌, List, [], ◌∷◌, ◌++◌, Option, Some, None, codes}
use Rattle.std.specs.List.{flat_map}
use Rattle.std.specs.Option.{option_or}
use Rattle.zvt_tlv.specs.Grammar.{Objects, none, primitive, constructed}
use Rattle.zvt_field.specs.Grammar.{Field, plain, tree}
use Rattle.zvt_text.specs.declared.text_blocks.ReceiptType.{ReceiptType}
use Rattle.zvt_text.specs.declared.text_blocks.ReceiptType.TheVariants.{Merchant, Customer, Administration, Other}

-- ---- the lines

abbrev pub is_line_tag : List ℕ → Bool
is_line_tag (tag ∷ []) = tag == 0x07
is_line_tag tag = false

abbrev pub is_texts_tag : List ℕ → Bool
is_texts_tag (tag ∷ []) = tag == 0x25
is_texts_tag tag = false

-- the text lines of a level, in order
abbrev pub text_lines : Objects → List (List ℕ)
text_lines none = []
text_lines (primitive tag content rest) = if is_line_tag tag then content ∷ text_lines rest else text_lines rest
text_lines (constructed tag inner rest) = text_lines rest

-- the text lines of the print texts of a level, in order
abbrev pub printed_lines : Objects → List (List ℕ)
printed_lines none = []
printed_lines (primitive tag content rest) = printed_lines rest
printed_lines (constructed tag inner rest) = if is_texts_tag tag then text_lines inner ++ printed_lines rest else printed_lines rest

abbrev pub field_printed : Field → List (List ℕ)
field_printed (plain bmp content) = []
field_printed (tree bmp objects) = printed_lines objects

-- the lines of a text block with these fields
abbrev pub block_lines : List Field → List (List ℕ)
block_lines = flat_map field_printed

-- ---- the type of the receipt

abbrev pub is_type_tag : List ℕ → Bool
is_type_tag (first ∷ second ∷ []) = (first == 0x1F) && (second == 0x07)
is_type_tag tag = false

abbrev pub type_of : ℕ → ReceiptType
type_of code = if code == 1 then Merchant else if code == 2 then Customer else if code == 3 then Administration else Other code

abbrev pub type_in_content : List ℕ → Option ReceiptType
type_in_content (code ∷ []) = Some (type_of code)
type_in_content content = None

-- the first receipt type of a level
abbrev pub type_in : Objects → Option ReceiptType
type_in none = None
type_in (primitive tag content rest) = if is_type_tag tag then type_in_content content else type_in rest
type_in (constructed tag inner rest) = type_in rest

abbrev pub field_type : Field → Option ReceiptType
field_type (plain bmp content) = None
field_type (tree bmp objects) = type_in objects

-- the receipt type of the first field that has one
abbrev pub block_type : List Field → Option ReceiptType
block_type [] = None
block_type (field ∷ fields) = option_or (field_type field) (block_type fields)

-- ---- worked rows

-- 06 D3 2B: an administration receipt of two lines, between two attributes
abbrev pub close_block : List Field
close_block =
    tree 0x06 (primitive (0x1F ∷ 0x07 ∷ []) (0x03 ∷ []) (constructed (0x25 ∷ [])
    (primitive (0x09 ∷ []) (0x80 ∷ [])
    (primitive (0x07 ∷ []) (codes "Kassenschnitt")
    (primitive (0x07 ∷ []) (codes "SUMME 112,14")
    (primitive (0x09 ∷ []) (0xFF ∷ []) none)))) none)) ∷ []

-- a line outside of the print texts, and a text field
abbrev pub other_block : List Field
other_block =
    plain 0x3C (codes "A") ∷ tree 0x06 (primitive (0x07 ∷ []) (codes "B") (constructed (0x24 ∷ []) (primitive (0x07 ∷ []) (codes "C") none) none)) ∷ []

-- 06 07 1F 07 01 04 25 02 07 00
abbrev pub unlisted_block : List Field
unlisted_block = tree 0x06 (primitive (0x1F ∷ 0x07 ∷ []) (0x04 ∷ []) (constructed (0x25 ∷ []) (primitive (0x07 ∷ []) [] none) none)) ∷ []

abbrev pub BlockRows : Type 0
BlockRows =
    (block_lines close_block ≡ codes "Kassenschnitt" ∷ codes "SUMME 112,14" ∷ []) ×
    (block_type close_block ≡ Some Administration) ×
    (block_lines other_block ≡ []) ×
    (block_type other_block ≡ None) ×
    (block_lines unlisted_block ≡ [] ∷ []) ×
    (block_type unlisted_block ≡ Some (Other 0x04))
