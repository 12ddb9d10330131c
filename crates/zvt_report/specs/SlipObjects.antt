-- A slip as JSON.
use Rattle.std.specs.Prelude.{◌≡◌, ℕ, ◌==◌, true, cond, List, [], ◌∷◌, ◌++◌, codes, Some, refl}
use Rattle.std.specs.Fmt.{decimal, digits}
use Rattle.std.specs.List.{flat_map}
use Rattle.hex.specs.Hex.{encode_with}
use Rattle.json.specs.Print.{escape_byte}
use Rattle.serde_json.specs.Data.{Data, string, array, object, Items, no_items, item, Members, no_members, member}
use Rattle.serde_json.specs.Read.{read}
use Rattle.serde_json.specs.Written.{compact_text}
use Rattle.zvt_json.specs.Reading.{fits}
use Rattle.zvt_json.specs.Strings.{count_value, line_text, text_value}
use Rattle.zvt_text.specs.Bytes.{hex_of, is_plain}
use Rattle.zvt_report.specs.Members.{lines_value}
use Rattle.zvt_report.specs.Slips.{Slip}
use Rattle.zvt_report.specs.declared.slip_kinds.SlipKind.{SlipKind}
use Rattle.zvt_report.specs.declared.slip_kinds.SlipKind.TheVariants.{PrintLines, PrintTexts, Merchant, Customer, Report}

abbrev pub kind_name : SlipKind → List ℕ
kind_name PrintLines = codes "print lines"
kind_name PrintTexts = codes "print texts"
kind_name Merchant = codes "merchant receipt"
kind_name Customer = codes "customer receipt"
kind_name Report = codes "terminal report"

abbrev pub text_items : List (List ℕ) → Items
text_items [] = no_items
text_items (text ∷ texts) = item (text_value text) (text_items texts)

-- the order up to which it was printed, if there is one
abbrev pub with_order : (order : ℕ) → Members → Members
with_order order later = cond (order == 0) later (member (codes "order") (count_value order) later)

abbrev pub members_of : Slip → Members
members_of slip =
    member (codes "kind") (string (kind_name slip.kind)) (member (codes "lines") (lines_value slip.first slip.last)
    (with_order slip.order (member (codes "texts") (array (text_items slip.texts)) no_members)))

abbrev pub slip_value : Slip → Data
slip_value slip = object (member (codes "slip") (object (members_of slip)) no_members)

-- the line of a slip
unfoldable pub slip_line : Slip → List ℕ
slip_line slip = line_text (slip_value slip)

-- its object is read back like every object of a report
abbrev pub SlipsReadBack : Type 0
SlipsReadBack = (slip : Slip) → fits (slip_value slip) ≡ true → read (compact_text (slip_value slip)) ≡ Some (slip_value slip)

-- ---- the same text, as it is written

-- a character between quotation marks
abbrev pub slashed_byte : ℕ → List ℕ
slashed_byte byte = cond (is_plain byte) (byte ∷ []) (codes "\\\\x" ++ hex_of byte)

abbrev pub slashed : List ℕ → List ℕ
slashed text = flat_map slashed_byte text

abbrev pub order_words : (order : ℕ) → List ℕ
order_words order = cond (order == 0) [] (codes "\"order\":" ++ decimal order ++ codes ",")

unfoldable pub kind_words : SlipKind → List ℕ
kind_words kind = codes "{\"slip\":{\"kind\":\"" ++ kind_name kind ++ codes "\",\"lines\":["

-- up to its texts
abbrev pub place_words : SlipKind → (first last order : ℕ) → List ℕ
place_words kind first last order = kind_words kind ++ decimal first ++ codes "," ++ decimal last ++ codes "]," ++ order_words order ++ codes "\"texts\":["

-- ---- rows worked by hand

a_receipt : slip_line (record { kind = Customer; first = 32; last = 32; order = 2; texts = codes "Bon \"1\"" ∷ [] ∷ [] })
    ≡ codes "{\"slip\":{\"kind\":\"customer receipt\",\"lines\":[32,32],\"order\":2,\"texts\":[\"Bon \\\\x221\\\\x22\",\"\"]}}\n"
unfolding digits encode_with escape_byte slip_line
a_receipt = refl

before_an_order : slip_line (record { kind = PrintLines; first = 1; last = 3; order = 0; texts = codes "A" ∷ [] })
    ≡ codes "{\"slip\":{\"kind\":\"print lines\",\"lines\":[1,3],\"texts\":[\"A\"]}}\n"
unfolding digits escape_byte slip_line
before_an_order = refl
