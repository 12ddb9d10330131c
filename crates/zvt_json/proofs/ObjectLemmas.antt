-- The JSON of the object that a view shows, and of those after it.
use Rattle.std.proofs.Common.{◌≡◌, ℕ, Bool, true, false, Some, None, List, ◌++◌, codes, refl, sym, ◌∙◌, ap, append_assoc}
use Rattle.std.proofs.Math.Bool.{Bool-set}
use Rattle.serde_json.specs.Written.{comma_if, compact_text, items_text}
use Rattle.zvt_tlv.specs.Grammar.{Objects, none, primitive, constructed, is_constructed}
use Rattle.zvt_tlv.specs.Lent.{GivesObject, IsChildren}
use Rattle.zvt_tlv.specs.declared.views.TlvView.{TlvView}
use Rattle.zvt_json.specs.Fields.{constructed_value, object_values, primitive_value}
use Rattle.zvt_json.specs.Texts.{primitive_text, tag_text}
use Rattle.zvt_json.proofs.TextLemmas.{constructed_said, primitive_said}

-- part after part is written
pub one_written : (whole t0 t1 all a more : List ℕ) → t0 ++ all ≡ whole → all ≡ a ++ more → t1 ≡ t0 ++ a → t1 ++ more ≡ whole
one_written whole t0 t1 all a more so e one = ap (λ (t : List ℕ). t ++ more) one ∙ append_assoc t0 a more ∙ ap (λ (l : List ℕ). t0 ++ l) (sym e) ∙ so

pub two_written : (whole t0 t1 t2 all a b more : List ℕ) → t0 ++ all ≡ whole → all ≡ a ++ (b ++ more) → t1 ≡ t0 ++ a → t2 ≡ t1 ++ b → t2 ++ more ≡ whole
two_written whole t0 t1 t2 all a b more so e one two = one_written whole t1 t2 (b ++ more) b more (one_written whole t0 t1 all a (b ++ more) so e one) refl two

pub three_written : (whole t0 t1 t2 t3 all a b c more : List ℕ) → t0 ++ all ≡ whole → all ≡ a ++ (b ++ (c ++ more)) → t1 ≡ t0 ++ a → t2 ≡ t1 ++ b → t3 ≡ t2 ++ c → t3 ++ more ≡ whole
three_written whole t0 t1 t2 t3 all a b c more so e one two three = one_written whole t2 t3 (c ++ more) c more (two_written whole t0 t1 t2 all a b (c ++ more) so e one two) refl three

pub four_written : (whole t0 t1 t2 t3 t4 all a b c d more : List ℕ) → t0 ++ all ≡ whole → all ≡ a ++ (b ++ (c ++ (d ++ more))) → t1 ≡ t0 ++ a → t2 ≡ t1 ++ b → t3 ≡ t2 ++ c → t4 ≡ t3 ++ d → t4 ++ more ≡ whole
four_written whole t0 t1 t2 t3 t4 all a b c d more so e one two three four = one_written whole t3 t4 (d ++ more) d more (three_written whole t0 t1 t2 t3 all a b c (d ++ more) so e one two three) refl four

-- an object, and those after it
abbrev before : Bool → List ℕ → Objects → List ℕ
before later text left = comma_if later ++ (text ++ items_text true (object_values left))

pub primitive_items : (later : Bool) (f left : Objects) (v : TlvView) → GivesObject f (Some v) left → IsChildren v None →
    items_text later (object_values f) ≡ comma_if later ++ (primitive_text v.tag.now v.content.now ++ items_text true (object_values left))
primitive_items later none left v e k = absurd e
primitive_items later (primitive tag content rest) left v e k =
    ap (λ (t : List ℕ). before later (compact_text (primitive_value t content)) rest) (sym e.0)
    ∙ ap (λ (c : List ℕ). before later (compact_text (primitive_value v.tag.now c)) rest) (sym e.2)
    ∙ ap (λ (r : Objects). before later (compact_text (primitive_value v.tag.now v.content.now)) r) (sym e.3)
    ∙ ap (λ (t : List ℕ). before later t left) (sym (primitive_said v.tag.now v.content.now))
primitive_items later (constructed tag inner rest) left v e k = absurd (cc (k, e.1.0))

-- the children are the objects inside
children : (v : TlvView) (inner other : Objects) → (k : is_constructed v.tag.now ≡ true) × ((v.inside k).0 ≡ inner) → IsChildren v (Some other) → inner ≡ other
children v inner other a b = sym a.1 ∙ ap (λ (k : is_constructed v.tag.now ≡ true). (v.inside k).0) (Bool-set _ _ a.0 b.0) ∙ b.1

-- the parts of an object that holds objects
in_parts : (later : Bool) (tag : List ℕ) (inner left : Objects) → before later (compact_text (constructed_value tag (object_values inner))) left
    ≡ comma_if later ++ (codes "{\"objects\":[" ++ (items_text false (object_values inner) ++ (tag_text tag ++ items_text true (object_values left))))
in_parts later tag inner left =
    ap (λ (t : List ℕ). before later t left) (constructed_said tag (object_values inner))
    ∙ ap (λ (l : List ℕ). comma_if later ++ (codes "{\"objects\":[" ++ l)) (append_assoc (items_text false (object_values inner)) (tag_text tag) (items_text true (object_values left)))

pub constructed_items : (later : Bool) (f left other : Objects) (v : TlvView) → GivesObject f (Some v) left → IsChildren v (Some other) →
    items_text later (object_values f) ≡ comma_if later ++ (codes "{\"objects\":[" ++ (items_text false (object_values other) ++ (tag_text v.tag.now ++ items_text true (object_values left))))
constructed_items later none left other v e k = absurd e
constructed_items later (primitive tag content rest) left other v e k = absurd (cc (k.0, e.1))
constructed_items later (constructed tag inner rest) left other v e k =
    ap (λ (t : List ℕ). before later (compact_text (constructed_value t (object_values inner))) rest) (sym e.0)
    ∙ ap (λ (i : Objects). before later (compact_text (constructed_value v.tag.now (object_values i))) rest) (children v inner other e.1 k)
    ∙ ap (λ (r : Objects). before later (compact_text (constructed_value v.tag.now (object_values other))) r) (sym e.2)
    ∙ in_parts later v.tag.now other left
