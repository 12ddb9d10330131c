-- Facts on the values that are made of views.
use Rattle.std.proofs.Common.{◌≡◌, ℕ, Some, None, List, [], ◌∷◌, ◌++◌, length, refl, sym, ◌∙◌, ap, subst, append_assoc, arith, length-append}
use Rattle.std.proofs.lemmas.List.{append-nil}
use Rattle.std.proofs.Math.Logic.{∥∥₁_elim}
use Rattle.std.specs.Coded.{Coded-set}
use Rattle.zvt_grammar.specs.Reading.{Reading, shortest}
use Rattle.zvt_tlv.specs.Grammar.{Objects}
use Rattle.zvt_tlv.specs.Spelled as tlv
use Rattle.zvt_field.specs.Grammar.{Field, plain, tree, field_code, FieldList}
use Rattle.zvt_field.specs.Bodies.{name_of, HasSpelling, HaveSpelling}
use Rattle.zvt_field.specs.Views.{Holds, tree_of}
use Rattle.zvt_field.specs.Lent.{shown}
use Rattle.zvt_field.specs.declared.views.FieldView.{FieldView}
use Rattle.zvt_field.proofs.ViewLemmas.{name_is}

-- the objects of a field that has a spelling have one
pub spelled_tree : (f : Field) (o : Objects) → Some o ≡ tree_of f → HasSpelling f → tlv.HasSpelling o
spelled_tree (plain bmp c) o e h = absurd (cc (e))
spelled_tree (tree bmp o') o e h =
    let same : o ≡ o' = cc (e) in
    let s = h.spelled.sized in
    subst tlv.HasSpelling (sym same) (record {
      bytes = s.content;
      spelled = s.inside;
      small = omega (arith, h.small, ap length h.spelled.whole, ap length s.whole, length-append s.size s.content);
    })

-- what is made of a view is what it shows
pub tree_shown : (v : FieldView) (made o : Objects) → Some o ≡ tree_of (shown v) → made ≡ o → tree v.bmp made ≡ shown v
tree_shown v made o e m = by_field (shown v) e (name_is v.bmp v.content.now v.field)
  where
    by_field : (f : Field) → Some o ≡ tree_of f → name_of f ≡ v.bmp → tree v.bmp made ≡ f
    by_field (plain n c) e is = absurd (cc (e))
    by_field (tree n i) e is = let same : o ≡ i = cc (e) in cc (same, m, is)

pub bytes_shown : (v : FieldView) (made : List ℕ) → None ≡ tree_of (shown v) → made ≡ v.content.now → plain v.bmp made ≡ shown v
bytes_shown v made e m = ∥∥₁_elim v.field.1 (Coded-set field_code _ _) (λ h. by_field (shown v) e h)
  where
    by_field : (f : Field) → None ≡ tree_of f → Holds v.bmp v.content.now f → plain v.bmp made ≡ f
    by_field (plain n c) e h = let names : n ≡ v.bmp = h.0 in let contents : c ≡ v.content.now = h.1 in cc (m, names, contents)
    by_field (tree n i) e h = absurd (cc (e))

-- a list of fields parts where it was joined
pub record Parted (r : Reading) (fs gs : List Field) (s : List ℕ) : Type 0 where
  pub prefix : List ℕ
  pub back : List ℕ
  pub whole : s ≡ prefix ++ back
  pub first : FieldList r fs prefix
  pub others : FieldList r gs back

pub list_parted : (r : Reading) (fs gs : List Field) (s : List ℕ) → FieldList r (fs ++ gs) s → Parted r fs gs s
list_parted r [] gs s p = record { prefix = []; back = s; whole = refl; first = refl; others = p }
list_parted r (f ∷ fs) gs s (one, after, whole, p, more) =
    let k = list_parted r fs gs after more in record {
      prefix = one ++ k.prefix;
      back = k.back;
      whole = whole ∙ ap (λ (a : List ℕ). one ++ a) k.whole ∙ sym (append_assoc one k.prefix k.back);
      first = (one, k.prefix, refl, p, k.first);
      others = k.others;
    }

-- fields that come first have a spelling where all of them have one
pub spelled_prefix : (fs gs : List Field) → HaveSpelling (fs ++ gs) → HaveSpelling fs
spelled_prefix fs gs h =
    let k = list_parted shortest fs gs h.bytes h.spelled in
    record { bytes = k.prefix; spelled = k.first; small = omega (arith, h.small, ap length k.whole, length-append k.prefix k.back) }

together : (made rest left : List Field) (f : Field) → rest ≡ f ∷ left → made ++ rest ≡ (made ++ f ∷ []) ++ left
together made rest left f e = ap (λ (l : List Field). made ++ l) e ∙ sym (append_assoc made (f ∷ []) left)

pub more_made : (made rest left whole : List Field) (f : Field) → made ++ rest ≡ whole → rest ≡ f ∷ left → (made ++ f ∷ []) ++ left ≡ whole
more_made made rest left whole f w e = sym (together made rest left f e) ∙ w

pub more_spelled : (made rest left whole : List Field) (f : Field) → made ++ rest ≡ whole → rest ≡ f ∷ left → HaveSpelling whole → HaveSpelling (made ++ f ∷ [])
more_spelled made rest left whole f w e h = spelled_prefix (made ++ f ∷ []) left (subst HaveSpelling (sym (more_made made rest left whole f w e)) h)

pub one_spelled : (made rest left whole : List Field) (f : Field) → made ++ rest ≡ whole → rest ≡ f ∷ left → HaveSpelling whole → HasSpelling f
one_spelled made rest left whole f w e h =
    let m = more_spelled made rest left whole f w e h in
    let k = list_parted shortest made (f ∷ []) m.bytes m.spelled in
    let (one, after, is, p, more) = k.others in
    record { bytes = one; spelled = p; small = omega (arith, m.small, ap length k.whole, length-append k.prefix k.back, ap length is, length-append one after) }

-- nothing is left
pub all_made : (made rest whole : List Field) → made ++ rest ≡ whole → rest ≡ [] → made ≡ whole
all_made made rest whole w e = sym (append-nil made) ∙ ap (λ (l : List Field). made ++ l) (sym e) ∙ w
