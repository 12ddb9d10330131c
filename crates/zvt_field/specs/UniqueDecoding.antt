-- Why bytes spell one list of fields: no field begins another.
use Rattle.std.proofs.Common.{◌≡◌, ◌≢◌, ℕ, ◌+◌, ◌<◌, ◌≤◌, Bool, true, false, cond, Option, Some, None, List, [], ◌∷◌, ◌++◌, length, option_map, ◌==◌, ◌&&◌, refl, sym, ◌∙◌, ap, subst, append_assoc, arith, length-append}
use Rattle.std.proofs.Math.Dec.{leb}
use Rattle.std.proofs.lemmas.Bool.{and_parts, leb-true}
use Rattle.zvt_bcd.specs.LengthDigits.{counted}
use Rattle.zvt_grammar.specs.Reading.{Reading}
use Rattle.zvt_tlv.specs.Grammar.{Objects}
use Rattle.zvt_tlv.specs.Sized.{Sized}
use Rattle.zvt_tlv.specs.UniqueDecoding.{length_prefix, same_prefix, one_tree, length_size}
use Rattle.zvt_field.specs.declared.shapes.Shape.{Shape}
use Rattle.zvt_field.specs.declared.shapes.Shape.TheVariants.{Fixed, Digits, Ll, Lll, Tree}
use Rattle.zvt_field.specs.Shapes.{BmpRow, shape_of, look_up, table}
use Rattle.zvt_field.specs.Grammar.{Field, plain, tree, IsHead, FieldOf, FieldList}

-- no shape is empty
abbrev pub IsSane : Option Shape → Type 0
IsSane None = Unit {0}
IsSane (Some (Fixed n)) = (1 ≤ n) × (n < 256)
IsSane (Some (Digits n)) = (1 ≤ n) × (n < 256)
IsSane (Some Ll) = Unit {0}
IsSane (Some Lll) = Unit {0}
IsSane (Some Tree) = Unit {0}

-- The same as a test, so that the table's rows are tested by computing.
abbrev is_sane : Shape → Bool
is_sane (Fixed n) = leb 1 n && leb n 255
is_sane (Digits n) = leb 1 n && leb n 255
is_sane Ll = true
is_sane Lll = true
is_sane Tree = true

sane_shape : (s : Shape) → is_sane s ≡ true → IsSane (Some s)
sane_shape (Fixed n) is = let parts = and_parts (leb 1 n) (leb n 255) is in (leb-true 1 n parts.0, omega (arith, leb-true n 255 parts.1))
sane_shape (Digits n) is = let parts = and_parts (leb 1 n) (leb n 255) is in (leb-true 1 n parts.0, omega (arith, leb-true n 255 parts.1))
sane_shape Ll is = tt
sane_shape Lll is = tt
sane_shape Tree is = tt

abbrev all_sane : List BmpRow → Bool
all_sane [] = true
all_sane (one ∷ rows) = is_sane one.shape && all_sane rows

abbrev shape_in : Option BmpRow → Option Shape
shape_in one = option_map (λ row. row.shape) one

either : (b : Bool) (one : BmpRow) (other : Option BmpRow) → IsSane (Some one.shape) → IsSane (shape_in other) → IsSane (shape_in (cond b (Some one) other))
either true one other p q = p
either false one other p q = q

sane_rows : (bmp : ℕ) (rows : List BmpRow) → all_sane rows ≡ true → IsSane (shape_in (look_up bmp rows))
sane_rows bmp [] all = tt
sane_rows bmp (one ∷ rows) all =
    let parts = and_parts (is_sane one.shape) (all_sane rows) all in
    either (bmp == one.bmp) one (look_up bmp rows) (sane_shape one.shape parts.0) (sane_rows bmp rows parts.1)

pub sane : (bmp : ℕ) → IsSane (shape_of bmp)
unfolding shape_of
sane bmp = sane_rows bmp table refl

-- what comes before a content says how long it is, and of what kind
pub record SameHead (digits digits' : Bool) (n n' : ℕ) (size size' x y : List ℕ) : Type 0 where
  pub kinds : digits ≡ digits'
  pub numbers : n ≡ n'
  pub sizes : size ≡ size'
  pub rests : x ≡ y

pub head_prefix : (o : Option Shape) (digits digits' : Bool) (n n' : ℕ) (size size' x y : List ℕ) → IsHead o digits n size → IsHead o digits' n' size' →
    size ++ x ≡ size' ++ y → SameHead digits digits' n n' size size' x y
head_prefix None d d' n n' s s' x y p q e = absurd p
head_prefix (Some (Fixed m)) d d' n n' s s' x y p q e =
    let one = same_prefix s s' x y (ap length (p.2 ∙ sym q.2)) e in
    record { kinds = p.0 ∙ sym q.0; numbers = p.1 ∙ sym q.1; sizes = one.0; rests = one.1 }
head_prefix (Some (Digits m)) d d' n n' s s' x y p q e =
    let one = same_prefix s s' x y (ap length (p.2 ∙ sym q.2)) e in
    record { kinds = p.0 ∙ sym q.0; numbers = p.1 ∙ sym q.1; sizes = one.0; rests = one.1 }
head_prefix (Some Ll) d d' n n' s s' x y p q e =
    let one = same_prefix s s' x y (p.1.0 ∙ sym q.1.0) e in
    record { kinds = p.0 ∙ sym q.0; numbers = sym p.1.2 ∙ ap (counted 0) one.0 ∙ q.1.2; sizes = one.0; rests = one.1 }
head_prefix (Some Lll) d d' n n' s s' x y p q e =
    let one = same_prefix s s' x y (p.1.0 ∙ sym q.1.0) e in
    record { kinds = p.0 ∙ sym q.0; numbers = sym p.1.2 ∙ ap (counted 0) one.0 ∙ q.1.2; sizes = one.0; rests = one.1 }
head_prefix (Some Tree) d d' n n' s s' x y p q e = absurd p

-- a length and its objects end themselves
pub sized_prefix : (r : Reading) (f g : Objects) (a b x y : List ℕ) → Sized r f a → Sized r g b → a ++ x ≡ b ++ y → (a ≡ b) × (f ≡ g) × (x ≡ y)
sized_prefix r f g a b x y p q e =
    let one = length_prefix r (length p.content) (length q.content) p.size q.size (p.content ++ x) (q.content ++ y) p.is_length q.is_length
    (sym (append_assoc p.size p.content x) ∙ ap (λ (s : List ℕ). s ++ x) (sym p.whole) ∙ e ∙ ap (λ (s : List ℕ). s ++ y) q.whole ∙ append_assoc q.size q.content y) in
    let two = same_prefix p.content q.content x y one.1 one.2 in
    let same : a ≡ b = p.whole ∙ ap (λ (s : List ℕ). s ++ p.content) one.0 ∙ ap (λ (s : List ℕ). q.size ++ s) two.0 ∙ sym q.whole in
    (same, one_tree r 1 f g p.content q.content two.0 p.inside q.inside, two.1)

-- no field's spelling begins another, and two fields share none
pub field_prefix : (r : Reading) (f g : Field) (a b x y : List ℕ) → FieldOf r f a → FieldOf r g b → a ++ x ≡ b ++ y → (a ≡ b) × (f ≡ g) × (x ≡ y)
field_prefix r (plain bmp c) (plain bmp' c') a b x y p q e =
    let whole : bmp ∷ (p.size ++ (c ++ x)) ≡ bmp' ∷ (q.size ++ (c' ++ y)) =
    ap (λ (s : List ℕ). bmp ∷ s) (sym (append_assoc p.size c x)) ∙ ap (λ (s : List ℕ). s ++ x) (sym p.whole) ∙ e ∙ ap (λ (s : List ℕ). s ++ y) q.whole ∙ ap (λ (s : List ℕ). bmp' ∷ s) (append_assoc q.size c' y) in
    let names : bmp ≡ bmp' = cc (whole) in
    let h = head_prefix (shape_of bmp') p.digits q.digits (length c) (length c') p.size q.size (c ++ x) (c' ++ y)
    (subst (λ (n : ℕ). IsHead (shape_of n) p.digits (length c) p.size) names p.is_head) q.is_head (cc (whole)) in
    let two = same_prefix c c' x y h.numbers h.rests in
    let sizes : p.size ≡ q.size = h.sizes in
    let contents : c ≡ c' = two.0 in
    (p.whole ∙ cc (names, sizes, contents) ∙ sym q.whole, cc (names, contents), two.1)
field_prefix r (plain bmp c) (tree bmp' o) a b x y p q e =
    let whole : bmp ∷ (p.size ++ (c ++ x)) ≡ bmp' ∷ (q.one ++ y) = ap (λ (s : List ℕ). bmp ∷ s) (sym (append_assoc p.size c x)) ∙ ap (λ (s : List ℕ). s ++ x) (sym p.whole) ∙ e ∙ ap (λ (s : List ℕ). s ++ y) q.whole in
    let names : bmp ≡ bmp' = cc (whole) in
    absurd (subst (λ (o : Option Shape). IsHead o p.digits (length c) p.size) (ap shape_of names ∙ q.is_tree) p.is_head)
field_prefix r (tree bmp o) (plain bmp' c) a b x y p q e =
    let whole : bmp ∷ (p.one ++ x) ≡ bmp' ∷ (q.size ++ (c ++ y)) = ap (λ (s : List ℕ). s ++ x) (sym p.whole) ∙ e ∙ ap (λ (s : List ℕ). s ++ y) q.whole ∙ ap (λ (s : List ℕ). bmp' ∷ s) (append_assoc q.size c y) in
    let names : bmp ≡ bmp' = cc (whole) in
    absurd (subst (λ (o : Option Shape). IsHead o q.digits (length c) q.size) (ap shape_of (sym names) ∙ p.is_tree) q.is_head)
field_prefix r (tree bmp o) (tree bmp' o') a b x y p q e =
    let whole : bmp ∷ (p.one ++ x) ≡ bmp' ∷ (q.one ++ y) = ap (λ (s : List ℕ). s ++ x) (sym p.whole) ∙ e ∙ ap (λ (s : List ℕ). s ++ y) q.whole in
    let names : bmp ≡ bmp' = cc (whole) in
    let s = sized_prefix r o o' p.one q.one x y p.sized q.sized (cc (whole)) in
    let ones : p.one ≡ q.one = s.0 in
    let trees : o ≡ o' = s.1 in
    (p.whole ∙ cc (names, ones) ∙ sym q.whole, cc (names, trees), s.2)

sane_head : (o : Option Shape) (digits : Bool) (n : ℕ) (size : List ℕ) → IsSane o → IsHead o digits n size → 1 ≤ length size + n
sane_head None d n s p q = absurd q
sane_head (Some (Fixed m)) d n s p q = omega (arith, p.0, q.1)
sane_head (Some (Digits m)) d n s p q = omega (arith, p.0, q.1)
sane_head (Some Ll) d n s p q = omega (arith, q.1.0)
sane_head (Some Lll) d n s p q = omega (arith, q.1.0)
sane_head (Some Tree) d n s p q = absurd q

pub sized_size : (r : Reading) (f : Objects) (a : List ℕ) → Sized r f a → 1 ≤ length a
sized_size r f a p = omega (arith, ap length p.whole, length-append p.size p.content, length_size r (length p.content) p.size p.is_length)

pub field_size : (r : Reading) (f : Field) (a : List ℕ) → FieldOf r f a → 2 ≤ length a
field_size r (plain bmp c) a p =
    omega (arith, ap length p.whole, length-append p.size c, sane_head (shape_of bmp) p.digits (length c) p.size (sane bmp) p.is_head)
field_size r (tree bmp o) a p = omega (arith, ap length p.whole, sized_size r o p.one p.sized)

pub not_single : (r : Reading) (fs : List Field) (s : List ℕ) → FieldList r fs s → length s ≢ 1
not_single r [] s p e = absurd (omega (arith, ap length p))
not_single r (f ∷ fs) s (one, after, whole, p, q) e = absurd (omega (arith, ap length whole, length-append one after, field_size r f one p))

-- bytes spell one list of fields at most
pub one_list : (r : Reading) (fs gs : List Field) (a b : List ℕ) → a ≡ b → FieldList r fs a → FieldList r gs b → fs ≡ gs
one_list r [] [] a b same p q = refl
one_list r [] (g ∷ gs) a b same p (one, after, whole, q, more) = absurd (omega (arith, ap length p, ap length same, ap length whole, length-append one after, field_size r g one q))
one_list r (f ∷ fs) [] a b same (one, after, whole, p, more) q = absurd (omega (arith, ap length q, ap length same, ap length whole, length-append one after, field_size r f one p))
one_list r (f ∷ fs) (g ∷ gs) a b same (one, after, whole, p, more) (one', after', whole', q, more') =
    let e = field_prefix r f g one one' after after' p q (sym whole ∙ same ∙ whole') in
    let heads : f ≡ g = e.1 in
    let tails = one_list r fs gs after after' e.2 more more' in
    cc (heads, tails)
