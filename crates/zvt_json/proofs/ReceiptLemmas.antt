-- The text of a receipt's lines is that of their values.
use Rattle.std.proofs.Common.{◌≡◌, ℕ, List, [], ◌∷◌, ◌++◌, Option, Some, None, codes, refl, ◌∙◌, ap, append_assoc}
use Rattle.std.specs.Fmt.{decimal, digits}
use Rattle.hex.specs.Hex.{encode_with}
use Rattle.json.specs.Print.{escape, escape_byte}
use Rattle.serde_json.specs.Written.{compact_text}
use Rattle.zvt_text.specs.Bytes.{hex_of}
use Rattle.zvt_text.specs.Receipts.{type_name}
use Rattle.zvt_text.specs.declared.text_blocks.ReceiptType.{ReceiptType}
use Rattle.zvt_text.specs.declared.text_blocks.ReceiptType.TheVariants.{Merchant, Customer, Administration, Other}
use Rattle.zvt_json.specs.Receipts.{IsByteType, printed_line, printed_line_text, printed_value, receipt_lines, receipt_lines_text}
use Rattle.zvt_json.specs.Texts.{printed_text, shut}
use Rattle.zvt_json.proofs.EscapeLemmas.{escape_all_plain, escape_append, escape_byte_hex}

pub printed_said : (receipt_type : Option ReceiptType) (line : ℕ) (text : List ℕ) → printed_line_text receipt_type line text ≡ compact_text (printed_value receipt_type line text)
unfolding escape_byte
printed_said None line text = refl
printed_said (Some receipt_type) line text =
    ap (λ (l : List ℕ). codes "{\"copy\":\"" ++ l)
    (append_assoc (shut (type_name receipt_type)) (codes ",") (codes "\"from\":\"terminal\",\"kind\":\"TextBlock\",\"line\":" ++ (decimal line ++ printed_text text)))

pub receipt_said : (receipt_type : Option ReceiptType) (line : ℕ) (texts : List (List ℕ)) → receipt_lines_text receipt_type line texts ≡ receipt_lines receipt_type line texts
receipt_said receipt_type line [] = refl
receipt_said receipt_type line (text ∷ texts) =
    ap (λ (l : List ℕ). (l ++ 10 ∷ []) ++ receipt_lines_text receipt_type line texts) (printed_said receipt_type line text)
    ∙ ap (λ (l : List ℕ). printed_line receipt_type line text ++ l) (receipt_said receipt_type line texts)

-- the name of a type needs no escape
pub type_plain : (receipt_type : ReceiptType) → IsByteType receipt_type → escape (type_name receipt_type) ≡ type_name receipt_type
type_plain Merchant fits = escape_all_plain (codes "merchant") refl
type_plain Customer fits = escape_all_plain (codes "customer") refl
type_plain Administration fits = escape_all_plain (codes "administration") refl
type_plain (Other code) fits =
    escape_append (codes "type ") (hex_of code)
    ∙ ap (λ (l : List ℕ). l ++ escape (hex_of code)) (escape_all_plain (codes "type ") refl)
    ∙ ap (λ (l : List ℕ). codes "type " ++ l) (escape_byte_hex code fits)

-- 06 D3, an administration receipt, and one of another type
pub closed : printed_line (Some Administration) 11 (codes "SUMME 112,14") ≡ codes "{\"copy\":\"administration\",\"from\":\"terminal\",\"kind\":\"TextBlock\",\"line\":11,\"text\":\"SUMME 112,14\"}\n"
unfolding encode_with digits escape_byte
closed = refl

pub unlisted : printed_line (Some (Other 0x04)) 2 (0x84 ∷ []) ≡ codes "{\"copy\":\"type 04\",\"from\":\"terminal\",\"kind\":\"TextBlock\",\"line\":2,\"text\":\"\\\\x84\"}\n"
unfolding encode_with digits escape_byte
unlisted = refl

pub untyped : printed_line None 2 [] ≡ codes "{\"from\":\"terminal\",\"kind\":\"TextBlock\",\"line\":2,\"text\":\"\"}\n"
unfolding encode_with digits escape_byte
untyped = refl
