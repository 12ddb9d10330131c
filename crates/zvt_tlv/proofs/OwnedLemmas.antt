-- Facts on the values that are made of views.
use Rattle.std.proofs.Common.{◌≡◌, ℕ, ◌<◌, ◌≤◌, true, Some, None, List, [], ◌∷◌, ◌++◌, refl, sym, ◌∙◌, ap, subst, arith, nat_lt, cond, Bool, false, suc}
use Rattle.std.proofs.Math.Bool.{Bool-set}
use Rattle.std.specs.declared.vec.Vec.{Vec}
use Rattle.std.specs.declared.alloc.Global.{Global}
use Rattle.zvt_grammar.specs.Reading.{shortest}
use Rattle.zvt_tlv.specs.declared.trees.Tlv.{Tlv}
use Rattle.zvt_tlv.specs.declared.trees.Body.TheVariants.{Prim, Cons}
use Rattle.zvt_tlv.specs.declared.views.TlvView.{TlvView}
use Rattle.zvt_tlv.specs.Grammar.{Objects, none, primitive, constructed, is_constructed, IsTag, Spells}
use Rattle.zvt_tlv.specs.Checks.{AllParts}
use Rattle.zvt_tlv.specs.Lent.{GivesObject, IsChildren}
use Rattle.zvt_tlv.specs.Trees.{before, objects_of}
use Rattle.zvt_tlv.specs.Sizes.{size_of, length_size}
use Rattle.zvt_tlv.proofs.Spelling.{joined}
use Rattle.zvt_tlv.proofs.TreeLemmas.{before_at_prim, before_at_cons, objects_joined}

-- what has a spelling has its parts
pub spelled_parts : (d : ℕ) (f : Objects) (s : List ℕ) → Spells shortest d f s → AllParts f
spelled_parts d none s p = tt
spelled_parts d (primitive tag c rest) s p = (p.is_tag, p.inside.1, spelled_parts d rest p.after p.others)
spelled_parts d (constructed tag inner rest) s p = (p.is_tag, spelled_parts (suc d) inner p.content p.inside.1, spelled_parts d rest p.after p.others)

-- the children are the objects inside
children : (v : TlvView) (inner other : Objects) → (k : is_constructed v.tag.now ≡ true) × ((v.inside k).0 ≡ inner) → IsChildren v (Some other) → inner ≡ other
children v inner other a b = sym a.1 ∙ ap (λ (k : is_constructed v.tag.now ≡ true). (v.inside k).0) (Bool-set _ _ a.0 b.0) ∙ b.1

pub first_tag : (f left : Objects) (v : TlvView) → GivesObject f (Some v) left → AllParts f → IsTag v.tag.now
first_tag none left v e p = absurd e
first_tag (primitive tag c rest) left v e p = subst IsTag (sym e.0) p.0
first_tag (constructed tag inner rest) left v e p = subst IsTag (sym e.0) p.0

pub parts_left : (f left : Objects) (v : TlvView) → GivesObject f (Some v) left → AllParts f → AllParts left
parts_left none left v e p = absurd e
parts_left (primitive tag c rest) left v e p = subst AllParts (sym e.3) p.2
parts_left (constructed tag inner rest) left v e p = subst AllParts (sym e.2) p.2

pub parts_inside : (f left other : Objects) (v : TlvView) → GivesObject f (Some v) left → IsChildren v (Some other) → AllParts f → AllParts other
parts_inside none left other v e k p = absurd e
parts_inside (primitive tag c rest) left other v e k p = absurd (cc (k.0, e.1))
parts_inside (constructed tag inner rest) left other v e k p = subst AllParts (children v inner other e.1 k) p.1

pub size_left : (f left : Objects) (v : TlvView) → GivesObject f (Some v) left → size_of left ≤ size_of f
size_left none left v e = absurd e
size_left (primitive tag c rest) left v e = omega (arith, ap size_of e.3)
size_left (constructed tag inner rest) left v e = omega (arith, ap size_of e.2)

some_size : (n : ℕ) → 1 ≤ length_size n
some_size n = some (nat_lt n 128) (nat_lt n 256)
  where
    some : (b c : Bool) → 1 ≤ cond b 1 (cond c 2 3)
    some true c = omega arith
    some false true = omega arith
    some false false = omega arith

pub size_inside : (f left other : Objects) (v : TlvView) → GivesObject f (Some v) left → IsChildren v (Some other) → size_of other < size_of f
size_inside none left other v e k = absurd e
size_inside (primitive tag c rest) left other v e k = absurd (cc (k.0, e.1))
size_inside (constructed tag inner rest) left other v e k = omega (arith, ap size_of (children v inner other e.1 k), some_size (size_of inner))

joined_apart : (f g h : Objects) → joined (joined f g) h ≡ joined f (joined g h)
joined_apart none g h = refl
joined_apart (primitive tag c rest) g h = ap (primitive tag c) (joined_apart rest g h)
joined_apart (constructed tag inner rest) g h = ap (constructed tag inner) (joined_apart rest g h)

-- one more of them is made, and the others are left
one_more : (made : List Tlv) (t : Tlv) (f left whole : Objects) → joined (objects_of made) f ≡ whole → joined (before t none) left ≡ f → joined (objects_of (made ++ t ∷ [])) left ≡ whole
one_more made t f left whole w e =
    ap (λ (o : Objects). joined o left) (objects_joined made (t ∷ [])) ∙ joined_apart (objects_of made) (before t none) left ∙ ap (joined (objects_of made)) e ∙ w

pub one_primitive : (made : List Tlv) (f left whole : Objects) (v : TlvView) (t : Tlv) (content : Vec ℕ Global) → joined (objects_of made) f ≡ whole → GivesObject f (Some v) left → IsChildren v None →
    t.tag ≡ v.tag.now → t.body ≡ Prim content → content.items ≡ v.content.now → joined (objects_of (made ++ t ∷ [])) left ≡ whole
one_primitive made f left whole v t content w e k is b c =
    one_more made t f left whole w (ap (λ (o : Objects). joined o left) (before_at_prim t content none b) ∙ shown f e)
  where
    shown : (f : Objects) → GivesObject f (Some v) left → primitive t.tag content.items left ≡ f
    shown none e = absurd e
    shown (primitive tag' c' rest) e =
        let tags : t.tag ≡ tag' = is ∙ e.0 in
        let contents : content.items ≡ c' = c ∙ e.2 in
        let lefts : left ≡ rest = e.3 in
        cc (tags, contents, lefts)
    shown (constructed tag' inner rest) e = absurd (cc (k, e.1.0))

pub one_constructed : (made : List Tlv) (f left other whole : Objects) (v : TlvView) (t : Tlv) (objects : Vec Tlv Global) → joined (objects_of made) f ≡ whole → GivesObject f (Some v) left → IsChildren v (Some other) →
    t.tag ≡ v.tag.now → t.body ≡ Cons objects → objects_of objects.items ≡ other → joined (objects_of (made ++ t ∷ [])) left ≡ whole
one_constructed made f left other whole v t objects w e k is b o =
    one_more made t f left whole w (ap (λ (o : Objects). joined o left) (before_at_cons t objects none b) ∙ shown f e)
  where
    shown : (f : Objects) → GivesObject f (Some v) left → constructed t.tag (objects_of objects.items) left ≡ f
    shown none e = absurd e
    shown (primitive tag' c' rest) e = absurd (cc (k.0, e.1))
    shown (constructed tag' inner rest) e =
        let tags : t.tag ≡ tag' = is ∙ e.0 in
        let inners : objects_of objects.items ≡ inner = o ∙ sym (children v inner other e.1 k) in
        let lefts : left ≡ rest = e.2 in
        cc (tags, inners, lefts)

-- nothing is left
pub all_made : (made : List Tlv) (f whole : Objects) → joined (objects_of made) f ≡ whole → f ≡ none → objects_of made ≡ whole
all_made made f whole w e = sym (joined_none (objects_of made)) ∙ ap (joined (objects_of made)) (sym e) ∙ w
  where
    joined_none : (f : Objects) → joined f none ≡ f
    joined_none none = refl
    joined_none (primitive tag c rest) = ap (primitive tag c) (joined_none rest)
    joined_none (constructed tag inner rest) = ap (constructed tag inner) (joined_none rest)
