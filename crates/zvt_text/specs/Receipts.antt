-- The text of receipts.
use Rattle.std.specs.Prelude.{◌≡◌, ℕ, List, [], ◌∷◌, ◌++◌, Option, Some, None, codes}
use Rattle.std.specs.List.{flat_map}
use Rattle.std.specs.Str.{IsAscii, IsUtf8}
use Rattle.zvt_field.specs.Grammar.{Field}
use Rattle.zvt_text.specs.Bytes.{escaped_text, hex_of}
use Rattle.zvt_text.specs.Codepages.{decoded_text, printed_text}
use Rattle.zvt_text.specs.TextBlocks.{block_lines, block_type}
use Rattle.zvt_text.specs.declared.codepages.Codepage.{Codepage}
use Rattle.zvt_text.specs.declared.codepages.Codepage.TheVariants.{Cp437, Cp850, Latin1, Utf8}
use Rattle.zvt_text.specs.declared.text_blocks.ReceiptType.{ReceiptType}
use Rattle.zvt_text.specs.declared.text_blocks.ReceiptType.TheVariants.{Merchant, Customer, Administration, Other}

abbrev pub type_name : ReceiptType → List ℕ
type_name Merchant = codes "merchant"
type_name Customer = codes "customer"
type_name Administration = codes "administration"
type_name (Other code) = codes "type " ++ hex_of code

-- the line before a receipt whose type is known
abbrev pub heading : Option ReceiptType → List ℕ
heading None = []
heading (Some receipt_type) = codes "# " ++ type_name receipt_type ++ codes " receipt\n"

abbrev pub receipt_line : Option Codepage → List ℕ → List ℕ
receipt_line codepage line = decoded_text codepage line ++ 10 ∷ []

abbrev pub receipt_text : Option Codepage → Option ReceiptType → List (List ℕ) → List ℕ
receipt_text codepage receipt_type lines = heading receipt_type ++ flat_map (receipt_line codepage) lines

-- the text of a text block with these fields
abbrev pub block_text : Option Codepage → List Field → List ℕ
block_text codepage fields = receipt_text codepage (block_type fields) (block_lines fields)

-- ---- what holds of each code page

-- ASCII is as without a code page
abbrev pub AsciiStays : Type 0
AsciiStays = (codepage : Option Codepage) (bytes : List ℕ) → IsAscii bytes → decoded_text codepage bytes ≡ escaped_text bytes

-- the text is UTF-8, whatever the bytes are
abbrev pub TextsAreUtf8 : Type 0
TextsAreUtf8 =
    ((codepage : Option Codepage) (bytes : List ℕ) → IsUtf8 (decoded_text codepage bytes)) ×
    ((codepage : Codepage) (bytes : List ℕ) → IsUtf8 (printed_text codepage bytes))

-- ---- worked rows

-- by each code page, and a line that is no UTF-8
abbrev pub ReceiptRows : Type 0
ReceiptRows =
    (receipt_line None (0x48 ∷ 0x84 ∷ []) ≡ codes "H\\x84\n") ×
    (receipt_line (Some Cp437) (0x48 ∷ 0x84 ∷ []) ≡ 0x48 ∷ 0xC3 ∷ 0xA4 ∷ 0x0A ∷ []) ×
    (receipt_line (Some Cp850) (0x9E ∷ 0xB3 ∷ []) ≡ 0xC3 ∷ 0x97 ∷ 0xE2 ∷ 0x94 ∷ 0x82 ∷ 0x0A ∷ []) ×
    (receipt_line (Some Latin1) (0xE4 ∷ 0x84 ∷ []) ≡ 0xC3 ∷ 0xA4 ∷ codes "\\x84\n") ×
    (receipt_line (Some Utf8) (0xC3 ∷ 0xA4 ∷ []) ≡ 0xC3 ∷ 0xA4 ∷ 0x0A ∷ []) ×
    (receipt_line (Some Utf8) (0xE4 ∷ 0x22 ∷ []) ≡ codes "\\xE4\\x22\n") ×
    (printed_text Cp437 (codes "\"\\" ++ 0x84 ∷ 0x1B ∷ []) ≡ codes "\"\\" ++ 0xC3 ∷ 0xA4 ∷ codes "\\x1B") ×
    (printed_text Utf8 (0x22 ∷ 0xC3 ∷ 0xA4 ∷ []) ≡ 0x22 ∷ 0xC3 ∷ 0xA4 ∷ []) ×
    (printed_text Utf8 (0xE4 ∷ []) ≡ codes "\\xE4") ×
    (receipt_text None (Some Merchant) (codes "A" ∷ [] ∷ []) ≡ codes "# merchant receipt\nA\n\n") ×
    (receipt_text None (Some (Other 0x04)) [] ≡ codes "# type 04 receipt\n")
