-- What is written of a slip as JSON, and that it is read back.
use Rattle.std.proofs.Common.{◌≡◌, ℕ, suc, ◌==◌, ◌<◌, ◌≤◌, ◌&&◌, Bool, true, false, cond, List, [], ◌∷◌, ◌++◌, codes, get_or, refl, sym, ◌∙◌, ap, ap₂, arith, append_assoc}
use Rattle.std.specs.Fmt.{decimal}
use Rattle.json.specs.Print.{escape, escape_byte}
use Rattle.serde_json.specs.Data.{string, array, object, Members, no_members, member, depth, items_depth}
use Rattle.serde_json.specs.Written.{items_text}
use Rattle.zvt_json.specs.Reading.{items_ordered, ordered}
use Rattle.zvt_json.specs.Strings.{count_value, line_text}
use Rattle.zvt_json.proofs.EscapeLemmas.{escape_append}
use Rattle.zvt_json.proofs.ReadBack.{reads_back}
use Rattle.zvt_text.specs.Bytes.{escaped, escaped_text}
use Rattle.zvt_report.specs.Members.{lines_value}
use Rattle.zvt_report.specs.SlipObjects.{SlipsReadBack, kind_name, kind_words, place_words, slashed, slip_line, slip_value, text_items}
use Rattle.zvt_report.specs.Slips.{Slip}
use Rattle.zvt_report.specs.declared.slip_kinds.SlipKind.{SlipKind}
use Rattle.zvt_report.specs.declared.slip_kinds.SlipKind.TheVariants.{PrintLines, PrintTexts, Merchant, Customer, Report}
use Rattle.zvt_report.proofs.CardLemmas.{plain_slashed}

-- ---- texts

-- JSON doubles the backslash before each number
pub text_slashed : (bytes : List ℕ) → ((i : ℕ) → get_or bytes i 0 < 256) → escape (escaped_text bytes) ≡ slashed bytes
text_slashed [] small = refl
text_slashed (byte ∷ bytes) small =
    escape_append (escaped byte) (escaped_text bytes) ∙ ap₂ (λ (a b : List ℕ). a ++ b) (plain_slashed byte (small 0)) (text_slashed bytes (λ i. small (suc i)))

-- ---- a line

kind_plain : (k : SlipKind) → escape (kind_name k) ≡ kind_name k
unfolding escape_byte
kind_plain PrintLines = refl
kind_plain PrintTexts = refl
kind_plain Merchant = refl
kind_plain Customer = refl
kind_plain Report = refl

abbrev with_kind : (n f l rest : List ℕ) → List ℕ
with_kind n f l rest =
    (123 ∷ ((34 ∷ (codes "slip" ++ 34 ∷ [])) ++ 58 ∷ ((123 ∷ ((34 ∷ (codes "kind" ++ 34 ∷ [])) ++ 58 ∷ ((34 ∷ (n ++ 34 ∷ [])) ++ (44 ∷ ((34 ∷ (codes "lines" ++ 34 ∷ [])) ++ 58 ∷ ((91 ∷ (f ++ (44 ∷ (l ++ 93 ∷ [])))) ++ rest)))))) ++ 125 ∷ []))) ++ 10 ∷ []

abbrev texts_part : (i : List ℕ) → List ℕ
texts_part i = (34 ∷ (codes "texts" ++ 34 ∷ [])) ++ 58 ∷ ((91 ∷ i) ++ 125 ∷ [])

-- with these words about the order
worded : (n f l o i : List ℕ)
    → (codes "{\"slip\":{\"kind\":\"" ++ n ++ codes "\",\"lines\":[") ++ f ++ codes "," ++ l ++ codes "]," ++ o ++ codes "\"texts\":[" ++ i ++ codes "}}\n" ≡ with_kind n f l (44 ∷ (o ++ texts_part i))
worded n f l o i = simp append_assoc

ordered_part : (d i : List ℕ) → (codes "\"order\":" ++ d ++ codes ",") ++ texts_part i ≡ (34 ∷ (codes "order" ++ 34 ∷ [])) ++ 58 ∷ (d ++ 44 ∷ texts_part i)
ordered_part d i = append_assoc (codes "\"order\":" ++ d) (codes ",") (texts_part i) ∙ append_assoc (codes "\"order\":") d (codes "," ++ texts_part i)

abbrev order_if : Bool → (order : ℕ) → Members → Members
order_if none order later = cond none later (member (codes "order") (count_value order) later)

said_if : (none : Bool) (kind : SlipKind) (first last order : ℕ) (texts : List (List ℕ))
    → (codes "{\"slip\":{\"kind\":\"" ++ kind_name kind ++ codes "\",\"lines\":[") ++ decimal first ++ codes "," ++ decimal last ++ codes "]," ++ cond none [] (codes "\"order\":" ++ decimal order ++ codes ",")
    ++ codes "\"texts\":[" ++ items_text false (text_items texts) ++ codes "}}\n"
    ≡ line_text (object (member (codes "slip") (object (member (codes "kind") (string (kind_name kind)) (member (codes "lines") (lines_value first last)
    (order_if none order (member (codes "texts") (array (text_items texts)) no_members))))) no_members))
unfolding escape_byte
said_if true kind first last order texts =
    let i = items_text false (text_items texts) in
    worded (kind_name kind) (decimal first) (decimal last) [] i
    ∙ ap (λ (n : List ℕ). with_kind n (decimal first) (decimal last) (44 ∷ texts_part i)) (sym (kind_plain kind))
said_if false kind first last order texts =
    let i = items_text false (text_items texts) in
    worded (kind_name kind) (decimal first) (decimal last) (codes "\"order\":" ++ decimal order ++ codes ",") i
    ∙ ap (λ (o : List ℕ). with_kind (kind_name kind) (decimal first) (decimal last) (44 ∷ o)) (ordered_part (decimal order) i)
    ∙ ap (λ (n : List ℕ). with_kind n (decimal first) (decimal last) (44 ∷ ((34 ∷ (codes "order" ++ 34 ∷ [])) ++ 58 ∷ (decimal order ++ 44 ∷ texts_part i)))) (sym (kind_plain kind))

pub slip_said : (slip : Slip) → place_words slip.kind slip.first slip.last slip.order ++ items_text false (text_items slip.texts) ++ codes "}}\n" ≡ slip_line slip
unfolding kind_words slip_line
slip_said slip = said_if (slip.order == 0) slip.kind slip.first slip.last slip.order slip.texts

-- ---- read back

texts_ordered : (texts : List (List ℕ)) → items_ordered (text_items texts) ≡ true
texts_ordered [] = refl
texts_ordered (text ∷ texts) = texts_ordered texts

texts_shallow : (texts : List (List ℕ)) → items_depth (text_items texts) ≤ 0
texts_shallow [] = omega arith
texts_shallow (text ∷ texts) = omega (arith, texts_shallow texts)

read_if : (none : Bool) (kind : SlipKind) (first last order : ℕ) (texts : List (List ℕ))
    → ordered (object (member (codes "slip") (object (member (codes "kind") (string (kind_name kind)) (member (codes "lines") (lines_value first last)
    (order_if none order (member (codes "texts") (array (text_items texts)) no_members))))) no_members)) ≡ true
read_if true kind first last order texts = ap (λ (b : Bool). ((b && true) && true)) (texts_ordered texts)
read_if false kind first last order texts = ap (λ (b : Bool). ((b && true) && true)) (texts_ordered texts)

shallow_if : (none : Bool) (kind : SlipKind) (first last order : ℕ) (texts : List (List ℕ))
    → depth (object (member (codes "slip") (object (member (codes "kind") (string (kind_name kind)) (member (codes "lines") (lines_value first last)
    (order_if none order (member (codes "texts") (array (text_items texts)) no_members))))) no_members)) ≤ 3
shallow_if true kind first last order texts = omega (arith, texts_shallow texts)
shallow_if false kind first last order texts = omega (arith, texts_shallow texts)

pub slips_read_back : SlipsReadBack
slips_read_back slip fit =
    reads_back (slip_value slip) fit (read_if (slip.order == 0) slip.kind slip.first slip.last slip.order slip.texts)
    (omega (arith, shallow_if (slip.order == 0) slip.kind slip.first slip.last slip.order slip.texts))
