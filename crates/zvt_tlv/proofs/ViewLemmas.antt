-- Facts on views: what comes first in bytes that spell objects, and what is after it.
use Rattle.std.proofs.Common.{◌≡◌, ℕ, ◌-◌, ◌/◌, ◌%◌, ◌<◌, ◌≤◌, ◌==◌, Bool, true, false, eqb-true, List, [], ◌∷◌, ◌++◌, length, take, drop, slice_index_or, refl, sym, ◌∙◌, ap, subst, arith, length-append, suc}
use Rattle.std.proofs.lemmas.Bool.{eqb-false}
use Rattle.std.proofs.lemmas.List.{length-take-le, take-append-drop}
use Rattle.std.proofs.Math.Seq.{take-length}
use Rattle.std.proofs.Math.Logic.{∥∥₁_elim, ∥∥₁_map}
use Rattle.std.specs.Coded.{Coded-set, coded_list, coded_ℕ, coded_bool}
use Rattle.zvt_grammar.specs.Reading.{shortest, padded}
use Rattle.zvt_tlv.specs.declared.views.TlvView.{TlvView}
use Rattle.zvt_tlv.specs.Coding.{objects_code}
use Rattle.zvt_tlv.specs.Grammar.{Parts, Objects, none, primitive, constructed, IsTag, IsLength, Spells, is_constructed, continues}
use Rattle.zvt_tlv.specs.Views.{ForestBytes, LengthFirst, ObjectFirst, Starts, count}
use Rattle.zvt_tlv.specs.Lent.{IsFirst}
use Rattle.zvt_tlv.proofs.Spelling.{same_prefix, one_tree, tag_size, length_size, shallower}

-- the bytes from a place on
pub cut_at : (n : ℕ) (b a x : List ℕ) → n ≡ length a → b ≡ a ++ x → (n ≤ length b) × (take n b ≡ a) × (drop n b ≡ x)
cut_at n b a x e w =
    let le : n ≤ length b = omega (arith, e, ap length w, length-append a x) in
    let same = same_prefix (take n b) a (drop n b) x (length-take-le n b le ∙ e) (take-append-drop n b ∙ w) in
    (le, same.0, same.1)

pub rest_at : (n : ℕ) (b a x : List ℕ) → n ≡ length a → b ≡ a ++ x → take (length b - n) (drop n b) ≡ x
rest_at n b a x e w =
    let d = (cut_at n b a x e w).2 in
    let l : length b - n ≡ length x = omega (arith, e, ap length w, length-append a x) in
    ap (λ (m : ℕ). take m (drop n b)) l ∙ ap (take (length x)) d ∙ take-length x

-- what `is_empty` answers
pub nothing : (b : List ℕ) → true ≡ (length b == 0) → length b ≡ 0
nothing b e = eqb-true _ _ (sym e)

pub something : (b : List ℕ) → false ≡ (length b == 0) → 0 < length b
something b e = let ne = eqb-false _ _ (sym e) in omega arith

-- what a tag's first byte says of its size
pub tag_some : (b tag after : List ℕ) → b ≡ tag ++ after → IsTag tag → 0 < length b
tag_some b tag after e t = omega (arith, tag_size tag t, ap length e, length-append tag after)

pub tag_more : (b tag after : List ℕ) → b ≡ tag ++ after → IsTag tag → slice_index_or b 0 0 % 32 ≡ 31 → 1 < length b
tag_more b [] after e t m = absurd t
tag_more b (x ∷ []) after e t m =
    let is : continues x ≡ true = ap (λ (l : List ℕ). continues (slice_index_or l 0 0)) (sym e) ∙ ap (λ (n : ℕ). n == 31) m in
    absurd (cc (is, t.1))
tag_more b (x ∷ y ∷ tag) after e t m = omega (arith, ap length e)

pub length_some : (b : List ℕ) → LengthFirst b → 0 < length b
length_some b (n, size, after, e, l) = omega (arith, length_size padded n size l, ap length e, length-append size after)

pub length_two : (b : List ℕ) → LengthFirst b → slice_index_or b 0 0 ≡ 0x81 → 1 < length b
length_two b (n, [], after, e, l) m = absurd l
length_two b (n, x ∷ [], after, e, l) m =
    let is : x ≡ 0x81 = ap (λ (s : List ℕ). slice_index_or s 0 0) (sym e) ∙ m in absurd (omega (arith, is, l.0, l.1))
length_two b (n, x ∷ y ∷ size, after, e, l) m = omega (arith, ap length e)

pub length_three : (b : List ℕ) → LengthFirst b → slice_index_or b 0 0 ≡ 0x82 → 2 < length b
length_three b (n, [], after, e, l) m = absurd l
length_three b (n, x ∷ [], after, e, l) m =
    let is : x ≡ 0x82 = ap (λ (s : List ℕ). slice_index_or s 0 0) (sym e) ∙ m in absurd (omega (arith, is, l.0, l.1))
length_three b (n, x ∷ y ∷ [], after, e, l) m =
    let is : x ≡ 0x82 = ap (λ (s : List ℕ). slice_index_or s 0 0) (sym e) ∙ m in absurd (omega (arith, is, l.0))
length_three b (n, x ∷ y ∷ z ∷ size, after, e, l) m = omega (arith, ap length e)

-- the parts that a walk found are those that come first
abbrev pub Exact : (b t c a : List ℕ) → Type 0
Exact b t c a = (tag size content after : List ℕ) → Starts tag size content after b → (t ≡ tag) × (c ≡ content) × (a ≡ after)

pub object_first : (f : Objects) (b : List ℕ) → Spells padded 1 f b → 0 < length b → ObjectFirst b
object_first none b p some = absurd (omega (arith, ap length p))
object_first (primitive tag c rest) b p some = (tag, p.size, p.content, p.after, record { whole = p.whole; is_tag = p.is_tag; is_length = p.is_length })
object_first (constructed tag inner rest) b p some = (tag, p.size, p.content, p.after, record { whole = p.whole; is_tag = p.is_tag; is_length = p.is_length })

abbrev pub rest_of : Objects → Objects
rest_of none = none
rest_of (primitive tag c rest) = rest
rest_of (constructed tag inner rest) = rest

abbrev pub inner_of : Objects → Objects
inner_of none = none
inner_of (primitive tag c rest) = none
inner_of (constructed tag inner rest) = inner

pub rest_spelled : (f : Objects) (b t c a : List ℕ) → Spells padded 1 f b → 0 < length b → Exact b t c a → Spells padded 1 (rest_of f) a
rest_spelled none b t c a p some x = absurd (omega (arith, ap length p))
rest_spelled (primitive tag k rest) b t c a p some x =
    subst (Spells padded 1 rest) (sym (x tag p.size p.content p.after (record { whole = p.whole; is_tag = p.is_tag; is_length = p.is_length })).2) p.others
rest_spelled (constructed tag inner rest) b t c a p some x =
    subst (Spells padded 1 rest) (sym (x tag p.size p.content p.after (record { whole = p.whole; is_tag = p.is_tag; is_length = p.is_length })).2) p.others

pub inner_spelled : (f : Objects) (b t c a : List ℕ) → Spells padded 1 f b → 0 < length b → Exact b t c a → is_constructed t ≡ true → Spells padded 1 (inner_of f) c
inner_spelled none b t c a p some x kind = absurd (omega (arith, ap length p))
inner_spelled (primitive tag k rest) b t c a p some x kind =
    let e = x tag p.size p.content p.after (record { whole = p.whole; is_tag = p.is_tag; is_length = p.is_length }) in
    absurd (cc (ap is_constructed e.0, p.is_kind, kind))
inner_spelled (constructed tag inner rest) b t c a p some x kind =
    let e = x tag p.size p.content p.after (record { whole = p.whole; is_tag = p.is_tag; is_length = p.is_length }) in
    subst (Spells padded 1 inner) (sym e.1) (shallower padded 2 1 inner p.content (omega arith) p.inside.1)

-- bytes spell one forest
pub same_forest : (f : Objects) (b : List ℕ) → ∥ Spells padded 1 f b ∥₁ → (v : ForestBytes b) → v.0 ≡ f
same_forest f b p v = ∥∥₁_elim p (Coded-set objects_code _ _) (λ p. ∥∥₁_elim v.1 (Coded-set objects_code _ _) (λ q. one_tree padded 1 v.0 f b b refl q p))

pub none_left : (b : List ℕ) (v : ForestBytes b) → length b ≡ 0 → v.0 ≡ none
none_left b v e = same_forest none b ∣ empty b e ∣₁ v
  where
    empty : (b : List ℕ) → length b ≡ 0 → b ≡ []
    empty [] e = refl
    empty (x ∷ b) e = absurd (omega arith)

-- a tag that says objects
pub kind_is : (t : List ℕ) → 1 ≤ length t → slice_index_or t 0 0 / 32 % 2 ≡ 1 → is_constructed t ≡ true
kind_is [] some e = absurd (omega arith)
kind_is (x ∷ t) some e = ap (λ (n : ℕ). n == 1) e

-- the parts that come first in a spelling
first_parts : {k : Bool} {tag b : List ℕ} {C A : List ℕ → Type 0} → (t c a : List ℕ) → (p : Parts padded k tag C A b) → Exact b t c a → (t ≡ tag) × (c ≡ p.content) × (a ≡ p.after)
first_parts {tag = tag} t c a p x = x tag p.size p.content p.after (record { whole = p.whole; is_tag = p.is_tag; is_length = p.is_length })

-- what is shown first
pub first_shown : (f : Objects) (b a : List ℕ) (v : TlvView) → ∥ Spells padded 1 f b ∥₁ → 0 < length b → Exact b v.tag.now v.content.now a → (y : ForestBytes a) → IsFirst v f y.0
first_shown none b a v p some x y = ∥∥₁_elim p (λ u w. absurd u) (λ p. absurd (omega (arith, ap length p)))
first_shown (primitive tag c rest) b a v p some x y = (
  ∥∥₁_elim p (Coded-set (coded_list coded_ℕ) _ _) (λ p. (first_parts _ _ _ p x).0),
  ∥∥₁_elim p (Coded-set coded_bool _ _) (λ p. ap is_constructed (first_parts _ _ _ p x).0 ∙ p.is_kind),
  ∥∥₁_elim p (Coded-set (coded_list coded_ℕ) _ _) (λ p. (first_parts _ _ _ p x).1 ∙ p.inside.0),
  same_forest rest a (∥∥₁_map p (λ p. rest_spelled (primitive tag c rest) b _ _ a p some x)) y,
)
first_shown (constructed tag inner rest) b a v p some x y =
    let kind : is_constructed v.tag.now ≡ true = ∥∥₁_elim p (Coded-set coded_bool _ _) (λ p. ap is_constructed (first_parts _ _ _ p x).0 ∙ p.is_kind) in (
      ∥∥₁_elim p (Coded-set (coded_list coded_ℕ) _ _) (λ p. (first_parts _ _ _ p x).0),
      (kind, same_forest inner v.content.now (∥∥₁_map p (λ p. inner_spelled (constructed tag inner rest) b _ _ a p some x kind)) (v.inside kind)),
      same_forest rest a (∥∥₁_map p (λ p. rest_spelled (constructed tag inner rest) b _ _ a p some x)) y,
    )

pub fewer : (v : TlvView) (f left : Objects) → IsFirst v f left → count left < count f
fewer v none left p = absurd p
fewer v (primitive tag c rest) left p = omega (arith, ap count p.3)
fewer v (constructed tag inner rest) left p = omega (arith, ap count p.2)

-- the shortest reading's spellings are spellings of the padded one
pub length_loosened : (n : ℕ) (s : List ℕ) → IsLength shortest n s → IsLength padded n s
length_loosened n [] p = p
length_loosened n (a ∷ []) p = p
length_loosened n (a ∷ b ∷ []) p = (p.0, omega arith, p.2, p.3)
length_loosened n (a ∷ b ∷ c ∷ []) p = (p.0, omega arith, p.2, p.3, p.4)
length_loosened n (a ∷ b ∷ c ∷ d ∷ more) p = p

pub loosened : (d : ℕ) (f : Objects) (s : List ℕ) → Spells shortest d f s → Spells padded d f s
loosened d none s p = p
loosened d (primitive tag c rest) s p = record {
  size = p.size;
  content = p.content;
  after = p.after;
  whole = p.whole;
  is_tag = p.is_tag;
  is_kind = p.is_kind;
  is_length = length_loosened (length p.content) p.size p.is_length;
  inside = p.inside;
  others = loosened d rest p.after p.others;
}
loosened d (constructed tag inner rest) s p = record {
  size = p.size;
  content = p.content;
  after = p.after;
  whole = p.whole;
  is_tag = p.is_tag;
  is_kind = p.is_kind;
  is_length = length_loosened (length p.content) p.size p.is_length;
  inside = (p.inside.0, loosened (suc d) inner p.content p.inside.1);
  others = loosened d rest p.after p.others;
}
