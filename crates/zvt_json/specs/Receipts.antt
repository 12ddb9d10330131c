-- The JSON lines of a text block.
use Rattle.std.specs.Prelude.{◌<◌, ℕ, List, [], ◌∷◌, ◌++◌, Option, Some, None, codes}
use Rattle.std.specs.Fmt.{decimal}
use Rattle.std.specs.List.{flat_map}
use Rattle.serde_json.specs.Data.{Data, string, object, Members, no_members, member}
use Rattle.zvt_text.specs.Bytes.{escaped_text}
use Rattle.zvt_text.specs.Receipts.{type_name}
use Rattle.zvt_text.specs.declared.text_blocks.ReceiptType.{ReceiptType}
use Rattle.zvt_text.specs.declared.text_blocks.ReceiptType.TheVariants.{Merchant, Customer, Administration, Other}
use Rattle.zvt_trace.specs.declared.direction.Direction.TheVariants.{FromTerminal}
use Rattle.zvt_json.specs.Messages.{side_name}
use Rattle.zvt_json.specs.Strings.{count_value, line_text, text_value}
use Rattle.zvt_json.specs.Texts.{printed_text, shut}

-- the type of the receipt, if the block names one
abbrev pub with_copy : Option ReceiptType → Members → Members
with_copy None later = later
with_copy (Some receipt_type) later = member (codes "copy") (string (type_name receipt_type)) later

-- a line of a text block, and the line of the trace in which the block ends
abbrev pub printed_value : Option ReceiptType → (line : ℕ) → List ℕ → Data
printed_value receipt_type line text =
    object (with_copy receipt_type (member (codes "from") (string (side_name FromTerminal))
    (member (codes "kind") (string (codes "TextBlock")) (member (codes "line") (count_value line) (member (codes "text") (text_value text) no_members)))))

abbrev pub printed_line : Option ReceiptType → (line : ℕ) → List ℕ → List ℕ
printed_line receipt_type line text = line_text (printed_value receipt_type line text)

-- a line of JSON for each line of the receipt
abbrev pub receipt_lines : Option ReceiptType → (line : ℕ) → List (List ℕ) → List ℕ
receipt_lines receipt_type line texts = flat_map (printed_line receipt_type line) texts

-- ---- the text of the values

abbrev pub copy_led : Option ReceiptType → List ℕ
copy_led None = []
copy_led (Some receipt_type) = codes "\"copy\":\"" ++ (shut (type_name receipt_type) ++ codes ",")

abbrev pub printed_line_text : Option ReceiptType → (line : ℕ) → List ℕ → List ℕ
printed_line_text receipt_type line text =
    codes "{" ++ (copy_led receipt_type ++ (codes "\"from\":\"terminal\",\"kind\":\"TextBlock\",\"line\":" ++ (decimal line ++ printed_text text)))

abbrev pub receipt_lines_text : Option ReceiptType → (line : ℕ) → List (List ℕ) → List ℕ
receipt_lines_text receipt_type line texts = flat_map (λ text. printed_line_text receipt_type line text ++ 10 ∷ []) texts

-- the code of a type that is not listed is a byte
abbrev pub IsByteType : ReceiptType → Type 0
IsByteType Merchant = Unit {0}
IsByteType Customer = Unit {0}
IsByteType Administration = Unit {0}
IsByteType (Other code) = code < 256
