-- The texts of fields and objects are those of their values.
use Rattle.std.proofs.Common.{◌≡◌, ℕ, Bool, true, false, if◌then◌else◌, Some, None, Option, List, [], ◌∷◌, ◌++◌, length, codes, refl, sym, ◌∙◌, ap}
use Rattle.std.specs.Fmt.{decimal}
use Rattle.hex.specs.Hex.{encode_upper}
use Rattle.json.specs.Print.{escape_byte}
use Rattle.serde_json.specs.Data.{Items, no_members}
use Rattle.serde_json.specs.Written.{compact_text, items_text, members_text}
use Rattle.zvt_bcd.specs.Digits.{number_of}
use Rattle.zvt_tlv.specs.Grammar.{Objects}
use Rattle.zvt_text.specs.Bytes.{escaped_text, hex_of}
use Rattle.zvt_text.specs.Meanings.{meaning_of}
use Rattle.zvt_text.specs.Secrets.{is_secret_tag}
use Rattle.zvt_json.specs.Fields.{amount_value, constructed_value, content_value, field_name, hidden_object, hidden_value, named, object_values, primitive_value, quoted_value, result_value, shown_object, tag_member, tree_value, words_of}
use Rattle.zvt_json.specs.Texts.{amount_text, code_text, content_text, hidden_object_text, hidden_text, name_text, opened_text, primitive_text, quoted_text, result_text, shown_text, shut, tag_text, tree_text, words_text}
use Rattle.zvt_json.proofs.EscapeLemmas.{IsPlain, meaning_plain, name_plain}

pub words_said : (words : Option (List ℕ)) → IsPlain words → words_text words ≡ members_text true (words_of words)
unfolding escape_byte
words_said None plain = refl
words_said (Some words) plain = rw plain refl

-- a name, and the end of the object
name_said : (bmp : ℕ) → name_text bmp ++ codes "}" ≡ members_text true (named bmp no_members)
unfolding escape_byte
name_said bmp = ap (λ (l : List ℕ). codes ",\"name\":\"" ++ (l ++ 34 ∷ []) ++ codes "}") (sym (name_plain bmp))

-- a name, and what comes after it
name_before : (bmp : ℕ) (later : List ℕ) → name_text bmp ++ later ≡ codes ",\"name\":\"" ++ (shut (field_name bmp) ++ later)
name_before bmp later = ap (λ (l : List ℕ). codes ",\"name\":\"" ++ (l ++ 34 ∷ []) ++ later) (sym (name_plain bmp))

pub content_said : (bmp : ℕ) (content : List ℕ) → content_text bmp content ≡ compact_text (content_value bmp content)
unfolding escape_byte
content_said bmp content = ap (λ (l : List ℕ). opened_text bmp ++ (codes ",\"content\":\"" ++ (shut (encode_upper content) ++ l))) (name_said bmp)

-- a name, and the words of a result
coded_said : (bmp code : ℕ) → name_text bmp ++ words_text (meaning_of code) ≡ members_text true (named bmp (words_of (meaning_of code)))
unfolding escape_byte
coded_said bmp code = name_before bmp (words_text (meaning_of code)) ∙ ap (λ (l : List ℕ). codes ",\"name\":\"" ++ (shut (field_name bmp) ++ l)) (words_said (meaning_of code) (meaning_plain code))

pub code_said : (bmp code : ℕ) → code_text bmp code ≡ compact_text (result_value bmp (code ∷ []))
unfolding escape_byte
code_said bmp code = ap (λ (l : List ℕ). opened_text bmp ++ (codes ",\"code\":\"" ++ (shut (hex_of code) ++ l))) (coded_said bmp code)

pub result_said : (bmp : ℕ) (content : List ℕ) → result_text bmp content ≡ compact_text (result_value bmp content)
result_said bmp [] = content_said bmp []
result_said bmp (code ∷ []) = code_said bmp code
result_said bmp (a ∷ b ∷ more) = content_said bmp (a ∷ b ∷ more)

pub amount_said : (bmp : ℕ) (digits : List ℕ) → amount_text bmp (number_of digits) ≡ compact_text (amount_value bmp digits)
unfolding escape_byte
amount_said bmp digits = ap (λ (l : List ℕ). opened_text bmp ++ l) (name_before bmp (codes ",\"value\":" ++ (decimal (number_of digits) ++ codes "}")))

pub quoted_said : (bmp : ℕ) (content : List ℕ) → quoted_text bmp content ≡ compact_text (quoted_value bmp content)
unfolding escape_byte
quoted_said bmp content = ap (λ (l : List ℕ). opened_text bmp ++ l) (name_before bmp (codes ",\"text\":\"" ++ (shut (escaped_text content) ++ codes "}")))

pub hidden_said : (bmp size : ℕ) → hidden_text bmp size ≡ compact_text (hidden_value bmp size)
unfolding escape_byte
hidden_said bmp size = ap (λ (l : List ℕ). opened_text bmp ++ (codes ",\"hidden\":" ++ (decimal size ++ l))) (name_said bmp)

pub tree_said : (bmp : ℕ) (objects : Objects) → tree_text bmp objects ≡ compact_text (tree_value bmp objects)
unfolding escape_byte
tree_said bmp objects = ap (λ (l : List ℕ). opened_text bmp ++ l) (name_before bmp (codes ",\"objects\":[" ++ (items_text false (object_values objects) ++ codes "}")))

pub tag_said : (tag : List ℕ) → tag_text tag ≡ members_text true (tag_member tag)
unfolding escape_byte
tag_said tag = refl

object_said : (secret : Bool) (tag content : List ℕ) → (if secret then hidden_object_text tag (length content) else shown_text tag content)
    ≡ compact_text (if secret then hidden_object tag (length content) else shown_object tag content)
unfolding escape_byte
object_said true tag content = refl
object_said false tag content = refl

pub primitive_said : (tag content : List ℕ) → primitive_text tag content ≡ compact_text (primitive_value tag content)
primitive_said tag content = object_said (is_secret_tag tag) tag content

pub constructed_said : (tag : List ℕ) (inner : Items) → compact_text (constructed_value tag inner) ≡ codes "{\"objects\":[" ++ (items_text false inner ++ tag_text tag)
unfolding escape_byte
constructed_said tag inner = refl
