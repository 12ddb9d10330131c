-- Facts on views: the field that comes first in bytes that spell fields, and what is after it.
use Rattle.std.proofs.Common.{◌≡◌, ℕ, ◌+◌, ◌-◌, ◌<◌, ◌≤◌, true, false, Bool, Option, Some, None, List, [], ◌∷◌, ◌++◌, length, take, drop, slice_index_or, refl, sym, ◌∙◌, ap, subst, append_assoc, arith, length-append, suc, filter, is_some, cond, count_by, Bor}
use Rattle.std.specs.Prelude.{IfSome, not, ◌==◌}
use Rattle.std.proofs.lemmas.List.Elements.{filter_passes}
use Rattle.std.proofs.lemmas.Bool.{cond-true, cond-false, eq-eqb, ne_eqb}
use Rattle.std.proofs.lemmas.List.Sums.{length-filter, count_by-le-length, sum_by-cons}
use Rattle.std.proofs.Math.Seq.{take-length}
use Rattle.std.proofs.Math.Logic.{∥∥₁_elim, ∥∥₁_map}
use Rattle.std.specs.Coded.{Coded-set, coded_list, coded_ℕ, le_prop, ×_prop, Π_prop}
use Rattle.zvt_bcd.specs.Digits.{AreDigits}
use Rattle.zvt_grammar.specs.Reading.{shortest, padded}
use Rattle.zvt_tlv.specs.Grammar.{Objects, Spells}
use Rattle.zvt_tlv.specs.Coding.{objects_code}
use Rattle.zvt_tlv.specs.Views.{ForestBytes, forest_once, LengthFirst}
use Rattle.zvt_tlv.proofs.ViewLemmas.{length_loosened, loosened}
use Rattle.zvt_field.specs.declared.shapes.Shape.{Shape}
use Rattle.zvt_field.specs.declared.shapes.Shape.TheVariants.{Fixed, Digits, Ll, Lll, Tree}
use Rattle.zvt_field.specs.Shapes.{shape_of}
use Rattle.zvt_field.specs.Grammar.{Field, plain, tree, field_code, IsHead, FieldOf, FieldList}
use Rattle.zvt_field.specs.Views.{FieldsBytes, fields_once, FieldBytes, field_once, Holds, IsLead, LeadFirst, ContentFirst, tree_of, PlainBytes}
use Rattle.zvt_field.specs.declared.views.FieldView.{FieldView}
use Rattle.zvt_field.specs.Bodies.{name_of}
use Rattle.zvt_field.specs.Named.{bytes_of, is_named, sole, only_of, count_of}
use Rattle.zvt_field.specs.Lent.{shown, all_shown}
use Rattle.zvt_field.proofs.NamedLemmas.{sole_named, digits_of, fixed_of}
use Rattle.zvt_field.specs.UniqueDecoding.{field_size}

-- what comes before a content
pub lead_two : (o : Option Shape) (b : List ℕ) → o ≡ Some Ll → LeadFirst o b → 2 ≤ length b
lead_two o b e (n, size, after, w, l) =
    let k = subst (λ (o : Option Shape). IsLead o n size) e l in omega (arith, k.1.0, ap length w, length-append size after)

pub lead_three : (o : Option Shape) (b : List ℕ) → o ≡ Some Lll → LeadFirst o b → 3 ≤ length b
lead_three o b e (n, size, after, w, l) =
    let k = subst (λ (o : Option Shape). IsLead o n size) e l in omega (arith, k.1.0, ap length w, length-append size after)

pub lead_tree : (o : Option Shape) (b : List ℕ) → o ≡ Some Tree → LeadFirst o b → LengthFirst b
lead_tree o b e (n, size, after, w, l) = (n, size, after, w, subst (λ (o : Option Shape). IsLead o n size) e l)

lead_of : (o : Option Shape) (d : Bool) (n : ℕ) (size : List ℕ) → IsHead o d n size → IsLead o n size
lead_of None d n size p = p
lead_of (Some (Fixed m)) d n size p = (p.1, p.2)
lead_of (Some (Digits m)) d n size p = (p.1, p.2)
lead_of (Some Ll) d n size p = (refl, p.1)
lead_of (Some Lll) d n size p = (refl, p.1)
lead_of (Some Tree) d n size p = absurd p

-- the parts of the field that comes first
pub record First (f : Field) (fs : List Field) (b : List ℕ) : Type 0 where
  pub bmp : ℕ
  pub size : List ℕ
  pub content : List ℕ
  pub after : List ℕ
  pub whole : b ≡ bmp ∷ (size ++ (content ++ after))
  pub lead : IsLead (shape_of bmp) (length content) size
  pub holds : Holds bmp content f
  pub others : FieldList padded fs after

pub first_of : (f : Field) (fs : List Field) (b : List ℕ) → FieldList padded (f ∷ fs) b → First f fs b
first_of (plain bmp c) fs b (one, after, whole, p, more) = record {
  bmp = bmp;
  size = p.size;
  content = c;
  after = after;
  whole = whole ∙ ap (λ (s : List ℕ). s ++ after) p.whole ∙ ap (λ (s : List ℕ). bmp ∷ s) (append_assoc p.size c after);
  lead = lead_of (shape_of bmp) p.digits (length c) p.size p.is_head;
  holds = (refl, refl, (one, p));
  others = more;
}
first_of (tree bmp o) fs b (one, after, whole, p, more) = record {
  bmp = bmp;
  size = p.sized.size;
  content = p.sized.content;
  after = after;
  whole =
      whole ∙ ap (λ (s : List ℕ). s ++ after) p.whole
      ∙ ap (λ (s : List ℕ). bmp ∷ s) (ap (λ (s : List ℕ). s ++ after) p.sized.whole ∙ append_assoc p.sized.size p.sized.content after);
  lead = subst (λ (o : Option Shape). IsLead o (length p.sized.content) p.sized.size) (sym p.is_tree) p.sized.is_length;
  holds = (refl, p.is_tree, p.sized.inside);
  others = more;
}

-- the bytes after the first
abbrev pub tail : List ℕ → List ℕ
tail b = take (length b - 1) (drop 1 b)

tail_is : (b : List ℕ) (x : ℕ) (s : List ℕ) → b ≡ x ∷ s → tail b ≡ s
tail_is b x s e =
    let l : length (x ∷ s) - 1 ≡ length s = omega arith in ap tail e ∙ ap (λ (n : ℕ). take n s) l ∙ take-length s

first_is : (b : List ℕ) (x : ℕ) (s : List ℕ) → b ≡ x ∷ s → slice_index_or b 0 0 ≡ x
first_is b x s e = ap (λ (l : List ℕ). slice_index_or l 0 0) e

some_field : (b : List ℕ) → FieldList padded [] b → 0 < length b → ⊥
some_field b p some = omega (arith, ap length p)

pub content_first : (fs : List Field) (b : List ℕ) (o : Option Shape) → FieldList padded fs b → 0 < length b → o ≡ shape_of (slice_index_or b 0 0) → ContentFirst o (tail b)
content_first [] b o p some e = absurd (some_field b p some)
content_first (f ∷ fs) b o p some e =
    let k = first_of f fs b p in
    let shapes : shape_of k.bmp ≡ o = ap shape_of (sym (first_is b k.bmp _ k.whole)) ∙ sym e in
    (k.size, k.content, k.after, tail_is b k.bmp _ k.whole, subst (λ (o : Option Shape). IsLead o (length k.content) k.size) shapes k.lead)

-- what a walk found is what comes first
abbrev pub Exact : (o : Option Shape) → (b c a : List ℕ) → Type 0
Exact o b c a = (size content after : List ℕ) → tail b ≡ size ++ (content ++ after) → IsLead o (length content) size → (c ≡ content) × (a ≡ after)

abbrev pub others : List Field → List Field
others [] = []
others (f ∷ fs) = fs

abbrev pub head_of : List Field → Field
head_of [] = plain 0 []
head_of (f ∷ fs) = f

found : (f : Field) (fs : List Field) (b c a : List ℕ) (o : Option Shape) → (k : First f fs b) → o ≡ shape_of (slice_index_or b 0 0) → Exact o b c a → (c ≡ k.content) × (a ≡ k.after)
found f fs b c a o k e x =
    let shapes : shape_of k.bmp ≡ o = ap shape_of (sym (first_is b k.bmp _ k.whole)) ∙ sym e in
    x k.size k.content k.after (tail_is b k.bmp _ k.whole) (subst (λ (o : Option Shape). IsLead o (length k.content) k.size) shapes k.lead)

pub others_spelled : (fs : List Field) (b c a : List ℕ) (o : Option Shape) → FieldList padded fs b → 0 < length b → o ≡ shape_of (slice_index_or b 0 0) → Exact o b c a → FieldList padded (others fs) a
others_spelled [] b c a o p some e x = absurd (some_field b p some)
others_spelled (f ∷ fs) b c a o p some e x =
    let k = first_of f fs b p in subst (FieldList padded fs) (sym (found f fs b c a o k e x).1) k.others

pub head_held : (fs : List Field) (b c a : List ℕ) (o : Option Shape) → FieldList padded fs b → 0 < length b → o ≡ shape_of (slice_index_or b 0 0) → Exact o b c a → Holds (slice_index_or b 0 0) c (head_of fs)
head_held [] b c a o p some e x = absurd (some_field b p some)
head_held (f ∷ fs) b c a o p some e x =
    let k = first_of f fs b p in
    subst (λ (n : ℕ). Holds n c f) (sym (first_is b k.bmp _ k.whole)) (subst (λ (s : List ℕ). Holds k.bmp s f) (sym (found f fs b c a o k e x).0) k.holds)

-- bytes spell one list of fields
pub same_fields : (fs : List Field) (b : List ℕ) → ∥ FieldList padded fs b ∥₁ → (v : FieldsBytes b) → v.0 ≡ fs
same_fields fs b p v = ap (λ (u : FieldsBytes b). u.0) (fields_once b v (fs, p))

empty : (b : List ℕ) → length b ≡ 0 → b ≡ []
empty [] e = refl
empty (x ∷ b) e = absurd (omega arith)

pub none_left : (b : List ℕ) (v : FieldsBytes b) → length b ≡ 0 → v.0 ≡ []
none_left b v e = same_fields [] b ∣ empty b e ∣₁ v

pub first_shown : (fs : List Field) (b c a : List ℕ) (o : Option Shape) → ∥ FieldList padded fs b ∥₁ → 0 < length b → o ≡ shape_of (slice_index_or b 0 0) → Exact o b c a →
    (y : FieldBytes (slice_index_or b 0 0) c) (z : FieldsBytes a) → fs ≡ y.0 ∷ z.0
first_shown fs b c a o p some e x y z =
    let heads : head_of fs ≡ y.0 = ap (λ (u : FieldBytes (slice_index_or b 0 0) c). u.0) (field_once _ c (head_of fs, ∥∥₁_map p (λ p. head_held fs b c a o p some e x)) y) in
    let tails : others fs ≡ z.0 = sym (same_fields (others fs) a (∥∥₁_map p (λ p. others_spelled fs b c a o p some e x)) z) in
    ∥∥₁_elim p (Coded-set (coded_list field_code) _ _) (λ p. parted fs p) ∙ cc (heads, tails)
  where
    parted : (fs : List Field) → FieldList padded fs b → fs ≡ head_of fs ∷ others fs
    parted [] p = absurd (some_field b p some)
    parted (f ∷ fs) p = refl

-- the objects of a container
pub inside : (bmp : ℕ) (content : List ℕ) → FieldBytes bmp content → shape_of bmp ≡ Some Tree → ForestBytes content
inside bmp content v e = ∥∥₁_elim v.1 (forest_once content) (λ h. held v.0 h)
  where
    held : (f : Field) → Holds bmp content f → ForestBytes content
    held (plain n c) h = absurd (subst (λ (o : Option Shape). IsHead o h.2.1.digits (length content) h.2.1.size) e h.2.1.is_head)
    held (tree n o) h = (o, ∣ h.2 ∣₁)

pub is_tree : (bmp : ℕ) (content : List ℕ) → (v : FieldBytes bmp content) → shape_of bmp ≡ Some Tree → (g : Objects) → ((f : Objects) → Spells padded 1 f content → g ≡ f) → Some g ≡ tree_of v.0
is_tree bmp content (plain n c, h) e g x =
    absurd (∥∥₁_elim h (λ u. absurd u) (λ h. subst (λ (o : Option Shape). IsHead o h.2.1.digits (length content) h.2.1.size) e h.2.1.is_head))
is_tree bmp content (tree n o, h) e g x = ap Some (∥∥₁_elim h (Coded-set objects_code _ _) (λ h. x o h.2))

pub no_tree : (bmp : ℕ) (content : List ℕ) → (v : FieldBytes bmp content) → (shape_of bmp ≡ Some Tree → ⊥) → None ≡ tree_of v.0
no_tree bmp content (plain n c, h) ne = refl
no_tree bmp content (tree n o, h) ne = absurd (∥∥₁_elim h (λ u. absurd u) (λ h. ne h.1))

-- the field that is shown has the BMP that is shown
pub name_is : (bmp : ℕ) (content : List ℕ) → (v : FieldBytes bmp content) → name_of v.0 ≡ bmp
name_is bmp content v = ∥∥₁_elim v.1 (Coded-set coded_ℕ _ _) (λ h. held v.0 h)
  where
    held : (f : Field) → Holds bmp content f → name_of f ≡ bmp
    held (plain n c) h = h.0
    held (tree n o) h = h.0

-- what was found so far, and what is left
abbrev pub listed : Option FieldView → List Field
listed None = []
listed (Some v) = shown v ∷ []

abbrev pub FoundSo : (bmp : ℕ) → List Field → Option FieldView → (left : List Field) → Type 0
FoundSo bmp fs found left = filter (is_named bmp) fs ≡ listed found ++ filter (is_named bmp) left

is_one : (bmp : ℕ) (v : FieldView) → v.bmp ≡ bmp → is_named bmp (shown v) ≡ true
is_one bmp v e = eq-eqb (name_of (shown v)) bmp (name_is v.bmp v.content.now v.field ∙ e)

is_other : (bmp : ℕ) (v : FieldView) → (v.bmp ≡ bmp → ⊥) → is_named bmp (shown v) ≡ false
is_other bmp v ne = ne_eqb (name_of (shown v)) bmp (λ e. ne (sym (name_is v.bmp v.content.now v.field) ∙ e))

pub passes_one : (bmp : ℕ) (v : FieldView) (left rest : List Field) → left ≡ shown v ∷ rest → v.bmp ≡ bmp → filter (is_named bmp) left ≡ shown v ∷ filter (is_named bmp) rest
passes_one bmp v left rest e is = ap (filter (is_named bmp)) e ∙ cond-true (is_named bmp (shown v)) _ _ (is_one bmp v is)

pub passes_other : (bmp : ℕ) (v : FieldView) (left rest : List Field) → left ≡ shown v ∷ rest → (v.bmp ≡ bmp → ⊥) → filter (is_named bmp) left ≡ filter (is_named bmp) rest
passes_other bmp v left rest e ne = ap (filter (is_named bmp)) e ∙ cond-false (is_named bmp (shown v)) _ _ (is_other bmp v ne)

pub found_first : (bmp : ℕ) (fs left rest : List Field) (found : Option FieldView) (v : FieldView) → FoundSo bmp fs found left → false ≡ is_some found → left ≡ shown v ∷ rest → v.bmp ≡ bmp → FoundSo bmp fs (Some v) rest
found_first bmp fs left rest None v h answer e is = h ∙ passes_one bmp v left rest e is
found_first bmp fs left rest (Some w) v h answer e is = absurd (cc (answer))

pub found_other : (bmp : ℕ) (fs left rest : List Field) (found : Option FieldView) (v : FieldView) → FoundSo bmp fs found left → left ≡ shown v ∷ rest → (v.bmp ≡ bmp → ⊥) → FoundSo bmp fs found rest
found_other bmp fs left rest found v h e ne = h ∙ ap (λ (l : List Field). listed found ++ l) (passes_other bmp v left rest e ne)

pub found_twice : (bmp : ℕ) (fs left rest : List Field) (found : Option FieldView) (v : FieldView) → FoundSo bmp fs found left → true ≡ is_some found → left ≡ shown v ∷ rest → v.bmp ≡ bmp → None ≡ only_of bmp fs
found_twice bmp fs left rest None v h answer e is = absurd (cc (answer))
found_twice bmp fs left rest (Some w) v h answer e is =
    ap sole (sym (h ∙ ap (λ (l : List Field). shown w ∷ l) (passes_one bmp v left rest e is)))

pub found_all : (bmp : ℕ) (fs left : List Field) (found : Option FieldView) → FoundSo bmp fs found left → left ≡ [] → all_shown found ≡ only_of bmp fs
found_all bmp fs left None h e = ap sole (sym (h ∙ ap (filter (is_named bmp)) e))
found_all bmp fs left (Some w) h e = ap sole (sym (h ∙ ap (λ (l : List Field). shown w ∷ filter (is_named bmp) l) e))

-- that many stand so far
counted : (p : Field → Bool) (f : Field) (fs : List Field) → count_by p (f ∷ fs) ≡ cond (p f) 1 0 + count_by p fs
counted p f fs = sum_by-cons (λ x. cond (p x) 1 0) f fs

pub counts_one : (bmp n : ℕ) (fs left rest : List Field) (v : FieldView) → n + count_of bmp left ≡ count_of bmp fs → left ≡ shown v ∷ rest → v.bmp ≡ bmp → n + 1 + count_of bmp rest ≡ count_of bmp fs
counts_one bmp n fs left rest v h e is =
    let one : count_of bmp left ≡ suc (count_of bmp rest) = ap (count_of bmp) e ∙ counted (is_named bmp) (shown v) rest ∙ omega (arith, cond-true {A = ℕ} (is_named bmp (shown v)) 1 0 (is_one bmp v is)) in omega (arith, h, one)

pub counts_other : (bmp n : ℕ) (fs left rest : List Field) (v : FieldView) → n + count_of bmp left ≡ count_of bmp fs → left ≡ shown v ∷ rest → (v.bmp ≡ bmp → ⊥) → n + count_of bmp rest ≡ count_of bmp fs
counts_other bmp n fs left rest v h e ne =
    let one : count_of bmp left ≡ count_of bmp rest = ap (count_of bmp) e ∙ counted (is_named bmp) (shown v) rest ∙ omega (arith, cond-false {A = ℕ} (is_named bmp (shown v)) 1 0 (is_other bmp v ne)) in omega (arith, h, one)

few : (fs : List Field) (b : List ℕ) → FieldList padded fs b → length fs ≤ length b
few [] b p = omega arith
few (f ∷ fs) b (one, after, whole, p, more) = omega (arith, ap length whole, length-append one after, field_size padded f one p, few fs after more)

pub counts_fit : (bmp : ℕ) (fs : List Field) (b : List ℕ) → ∥ FieldList padded fs b ∥₁ → count_of bmp fs ≤ length b
counts_fit bmp fs b p = ∥∥₁_elim p le_prop (λ p. omega (arith, count_by-le-length (is_named bmp) fs, few fs b p))

-- a plain content
pub plain_of : (bmp : ℕ) (content : List ℕ) → (v : FieldBytes bmp content) → None ≡ tree_of v.0 → PlainBytes bmp content × (bytes_of v.0 ≡ Some content)
plain_of bmp content (plain n c, h) e =
    (∥∥₁_map h (λ h. h.2), ap Some (∥∥₁_elim h (Coded-set (coded_list coded_ℕ) _ _) (λ h. h.1)))
plain_of bmp content (tree n o, h) e = absurd (cc (e))

-- a plain content, where there is one
pub plain_in : (bmp : ℕ) (content : Option (Bor (List ℕ))) (bytes : Bor (List ℕ)) → content ≡ Some bytes → IfSome content (λ b. PlainBytes bmp b.now) → PlainBytes bmp bytes.now
plain_in bmp content bytes e p = subst (λ (o : Option (Bor (List ℕ))). IfSome o (λ b. PlainBytes bmp b.now)) e p

pub plain_named : (bmp name : ℕ) (content : Option (Bor (List ℕ))) → bmp ≡ name → IfSome content (λ b. PlainBytes bmp b.now) → IfSome content (λ b. PlainBytes name b.now)
plain_named bmp name content e p = subst (λ (n : ℕ). IfSome content (λ b. PlainBytes n b.now)) e p

pub no_plain : (bmp : ℕ) (content : List ℕ) → (v : FieldBytes bmp content) → (o : Objects) → Some o ≡ tree_of v.0 → bytes_of v.0 ≡ None
no_plain bmp content (plain n c, h) o e = absurd (cc (e))
no_plain bmp content (tree n i, h) o e = refl

pub digits_once : (content : List ℕ) → (a b : AreDigits content) → a ≡ b
digits_once content = Π_prop (λ k. Π_prop (λ d. Π_prop (λ _. ×_prop le_prop le_prop)))

-- a content of a fixed size
digits_in : (bmp n : ℕ) (content : List ℕ) → shape_of bmp ≡ Some (Digits n) → PlainBytes bmp content → AreDigits content × (length content ≡ n)
digits_in bmp n content e p = (
  ∥∥₁_elim p (digits_once content) (λ p. (digits_of bmp n content p.0 e p.1).0),
  ∥∥₁_elim p (Coded-set coded_ℕ _ _) (λ p. (digits_of bmp n content p.0 e p.1).1),
)

fixed_in : (bmp n : ℕ) (content : List ℕ) → shape_of bmp ≡ Some (Fixed n) → PlainBytes bmp content → length content ≡ n
fixed_in bmp n content e p = ∥∥₁_elim p (Coded-set coded_ℕ _ _) (λ p. fixed_of bmp n content p.0 e p.1)

pub amount_parts : (content : List ℕ) → PlainBytes 0x04 content → AreDigits content × (length content ≡ 6)
unfolding shape_of
amount_parts content p = digits_in 0x04 6 content refl p

pub trace_parts : (content : List ℕ) → PlainBytes 0x0B content → AreDigits content × (length content ≡ 3)
unfolding shape_of
trace_parts content p = digits_in 0x0B 3 content refl p

pub currency_parts : (content : List ℕ) → PlainBytes 0x49 content → AreDigits content × (length content ≡ 2)
unfolding shape_of
currency_parts content p = digits_in 0x49 2 content refl p

pub receipt_length : (content : List ℕ) → PlainBytes 0x87 content → length content ≡ 2
unfolding shape_of
receipt_length content p = fixed_in 0x87 2 content refl p

pub original_length : (content : List ℕ) → PlainBytes 0x37 content → length content ≡ 3
unfolding shape_of
original_length content p = fixed_in 0x37 3 content refl p

-- the only field of a BMP has that BMP
pub only_named : (bmp : ℕ) (fs : List Field) (v : FieldView) → Some (shown v) ≡ only_of bmp fs → v.bmp ≡ bmp
only_named bmp fs v e =
    sym (name_is v.bmp v.content.now v.field) ∙ sole_named bmp (filter (is_named bmp) fs) (shown v) (filter_passes (is_named bmp) fs) (sym e)

-- the shortest reading's spellings are spellings of the padded one
field_loosened : (f : Field) (s : List ℕ) → FieldOf shortest f s → FieldOf padded f s
field_loosened (plain bmp c) s p = p
field_loosened (tree bmp o) s p = record {
  one = p.one;
  whole = p.whole;
  is_tree = p.is_tree;
  sized = record {
    size = p.sized.size;
    content = p.sized.content;
    whole = p.sized.whole;
    is_length = length_loosened (length p.sized.content) p.sized.size p.sized.is_length;
    inside = loosened 1 o p.sized.content p.sized.inside;
  };
}

pub fields_loosened : (fs : List Field) (s : List ℕ) → FieldList shortest fs s → FieldList padded fs s
fields_loosened [] s p = p
fields_loosened (f ∷ fs) s (one, after, whole, p, more) = (one, after, whole, field_loosened f one p, fields_loosened fs after more)

-- what was seen of a BMP in all the fields
pub once_named : (bmp : ℕ) (fs : List Field) (v : FieldView) → filter (is_named bmp) fs ≡ shown v ∷ [] → v.bmp ≡ bmp
once_named bmp fs v e = only_named bmp fs v (sym (ap sole e))

pub none_counted : (bmp : ℕ) (fs : List Field) → filter (is_named bmp) fs ≡ [] → count_of bmp fs ≡ 0
none_counted bmp fs e = sym (length-filter (is_named bmp) fs) ∙ ap length e

pub some_counted : (bmp : ℕ) (fs : List Field) (f : Field) (rest : List Field) → filter (is_named bmp) fs ≡ f ∷ rest → count_of bmp fs ≡ suc (length rest)
some_counted bmp fs f rest e = sym (length-filter (is_named bmp) fs) ∙ ap length e

pub not_there : (bmp : ℕ) (fs : List Field) → filter (is_named bmp) fs ≡ [] → false ≡ not (count_of bmp fs == 0)
not_there bmp fs e = sym (ap not (eq-eqb (count_of bmp fs) 0 (none_counted bmp fs e)))

pub is_there : (bmp : ℕ) (fs : List Field) (f : Field) (rest : List Field) → filter (is_named bmp) fs ≡ f ∷ rest → true ≡ not (count_of bmp fs == 0)
is_there bmp fs f rest e = sym (ap not (ne_eqb (count_of bmp fs) 0 (λ none. omega (arith, none, some_counted bmp fs f rest e))))
