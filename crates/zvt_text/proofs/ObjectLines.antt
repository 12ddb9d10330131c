-- The lines of the object that a view shows, and of those after it.
use Rattle.std.proofs.Common.{◌≡◌, ℕ, ◌+◌, ◌<◌, true, Some, None, List, [], ◌∷◌, ◌++◌, sym, ◌∙◌, ap, subst, append_assoc, add-one}
use Rattle.std.proofs.lemmas.Bool.{and_parts, ltb-true}
use Rattle.std.proofs.Math.Bool.{Bool-set}
use Rattle.zvt_tlv.specs.Checks.{is_shallow}
use Rattle.zvt_tlv.specs.Grammar.{Objects, none, primitive, constructed, is_constructed}
use Rattle.zvt_tlv.specs.Lent.{GivesObject, IsChildren}
use Rattle.zvt_tlv.specs.declared.views.TlvView.{TlvView}
use Rattle.zvt_text.specs.Lines.{constructed_text, object_head, object_lines, object_text}
use Rattle.zvt_text.specs.declared.text_options.TextOptions.{TextOptions}

pub primitive_lines : (options : TextOptions) (depth : ℕ) (f left : Objects) (v : TlvView) → GivesObject f (Some v) left → IsChildren v None →
    object_lines options depth f ≡ object_head depth v.tag.now ++ object_text options v.tag.now v.content.now ++ 10 ∷ object_lines options depth left
primitive_lines options depth none left v e k = absurd e
primitive_lines options depth (primitive tag content rest) left v e k =
    ap (λ (t : List ℕ). object_head depth t ++ object_text options t content ++ 10 ∷ object_lines options depth rest) (sym e.0)
    ∙ ap (λ (c : List ℕ). object_head depth v.tag.now ++ object_text options v.tag.now c ++ 10 ∷ object_lines options depth rest) (sym e.2)
    ∙ ap (λ (r : Objects). object_head depth v.tag.now ++ object_text options v.tag.now v.content.now ++ 10 ∷ object_lines options depth r) (sym e.3)
primitive_lines options depth (constructed tag inner rest) left v e k = absurd (cc (k, e.1.0))

-- the children are the objects inside
pub children : (v : TlvView) (inner other : Objects) → (k : is_constructed v.tag.now ≡ true) × ((v.inside k).0 ≡ inner) → IsChildren v (Some other) → inner ≡ other
children v inner other a b = sym a.1 ∙ ap (λ (k : is_constructed v.tag.now ≡ true). (v.inside k).0) (Bool-set _ _ a.0 b.0) ∙ b.1

pub constructed_lines : (options : TextOptions) (depth : ℕ) (f left other : Objects) (v : TlvView) → GivesObject f (Some v) left → IsChildren v (Some other) →
    object_lines options depth f ≡ object_head depth v.tag.now ++ constructed_text options v.tag.now ++ 10 ∷ object_lines options (depth + 1) other ++ object_lines options depth left
constructed_lines options depth none left other v e k = absurd e
constructed_lines options depth (primitive tag content rest) left other v e k = absurd (cc (k.0, e.1))
constructed_lines options depth (constructed tag inner rest) left other v e k =
    ap (λ (t : List ℕ). object_head depth t ++ constructed_text options t ++ 10 ∷ object_lines options (depth + 1) inner ++ object_lines options depth rest) (sym e.0)
    ∙ ap (λ (i : Objects). object_head depth v.tag.now ++ constructed_text options v.tag.now ++ 10 ∷ object_lines options (depth + 1) i ++ object_lines options depth rest) (children v inner other e.1 k)
    ∙ ap (λ (r : Objects). object_head depth v.tag.now ++ constructed_text options v.tag.now ++ 10 ∷ object_lines options (depth + 1) other ++ object_lines options depth r) (sym e.2)

pub children_shallow : (depth : ℕ) (f left other : Objects) (v : TlvView) → GivesObject f (Some v) left → IsChildren v (Some other) → is_shallow depth f ≡ true → (depth < 6) × (is_shallow (depth + 1) other ≡ true)
children_shallow depth none left other v e k s = absurd e
children_shallow depth (primitive tag content rest) left other v e k s = absurd (cc (k.0, e.1))
children_shallow depth (constructed tag inner rest) left other v e k s =
    let both = and_parts _ _ s in
    let parts = and_parts _ _ both.0 in (
      ltb-true depth 6 parts.0,
      subst (λ (i : Objects). is_shallow (depth + 1) i ≡ true) (children v inner other e.1 k) (subst (λ (n : ℕ). is_shallow n inner ≡ true) (sym (add-one depth)) parts.1),
    )

pub others_shallow : (depth : ℕ) (f left : Objects) (v : TlvView) → GivesObject f (Some v) left → is_shallow depth f ≡ true → is_shallow depth left ≡ true
others_shallow depth none left v e s = absurd e
others_shallow depth (primitive tag content rest) left v e s = subst (λ (r : Objects). is_shallow depth r ≡ true) (sym e.3) s
others_shallow depth (constructed tag inner rest) left v e s = subst (λ (r : Objects). is_shallow depth r ≡ true) (sym e.2) (and_parts _ _ s).1

-- the text so far and the lines that are left
pub primitive_written : (whole t0 t1 t2 t3 head value lines rest : List ℕ) → t0 ++ lines ≡ whole → t1 ≡ t0 ++ head → t2 ≡ t1 ++ value → t3 ≡ t2 ++ 10 ∷ [] → lines ≡ head ++ value ++ 10 ∷ rest → t3 ++ rest ≡ whole
primitive_written whole t0 t1 t2 t3 head value lines rest w a b c e =
    let same : t3 ++ rest ≡ t0 ++ (head ++ value ++ 10 ∷ rest) = rw (c, b, a) (simp append_assoc) in same ∙ ap (λ (l : List ℕ). t0 ++ l) (sym e) ∙ w

pub constructed_written : (whole t0 t1 t2 t3 head word inner lines rest : List ℕ) → t0 ++ lines ≡ whole → t1 ≡ t0 ++ head → t2 ≡ t1 ++ (word ++ 10 ∷ []) → t3 ≡ t2 ++ inner → lines ≡ head ++ word ++ 10 ∷ inner ++ rest → t3 ++ rest ≡ whole
constructed_written whole t0 t1 t2 t3 head word inner lines rest w a b c e =
    let same : t3 ++ rest ≡ t0 ++ (head ++ word ++ 10 ∷ inner ++ rest) = rw (c, b, a) (simp append_assoc) in same ∙ ap (λ (l : List ℕ). t0 ++ l) (sym e) ∙ w
