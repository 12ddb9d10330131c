-- In the shortest reading a field has one spelling, of one size.
use Rattle.std.proofs.Common.{◌≡◌, ℕ, ◌+◌, ◌/◌, ◌%◌, ◌<◌, ◌≤◌, nat_lt, cond, Bool, true, false, Option, Some, None, List, [], ◌∷◌, ◌++◌, length, refl, sym, ◌∙◌, ap, subst, append_assoc, arith, length-append}
use Rattle.std.proofs.lemmas.Bool.{eqb-true, eq-eqb, ltb-true, lt-ltb}
use Rattle.zvt_bcd.specs.LengthDigits.{IsCount}
use Rattle.zvt_grammar.specs.Reading.{shortest}
use Rattle.zvt_tlv.specs.Grammar.{Objects}
use Rattle.zvt_tlv.specs.Sizes as tlv
use Rattle.zvt_field.proofs.SizedSpelling.{sized_spelling, sized_size, sized_spelled, spelled_sized}
use Rattle.zvt_field.specs.declared.shapes.Shape.{Shape}
use Rattle.zvt_field.specs.declared.shapes.Shape.TheVariants.{Fixed, Digits, Ll, Lll, Tree}
use Rattle.zvt_field.specs.Shapes.{shape_of}
use Rattle.zvt_field.specs.Grammar.{Field, plain, tree, IsHead, IsContent, FieldOf, FieldList}
use Rattle.zvt_field.specs.Judging.{count_digits}
use Rattle.zvt_field.specs.Spelling.{count_bytes, count_holds, spelling_of, spelling_of_all, size_of_field}
use Rattle.zvt_field.specs.Bodies.{name_of, AreParts, HasSpelling, HaveSpelling, size_agrees, DigitsAgree}
use Rattle.zvt_field.specs.Lists.{HaveSize}
use Rattle.zvt_field.proofs.FieldLists.{IsSane, sane}
use Rattle.zvt_field.proofs.Counts.{counts_small}

-- the digits of a length are one list
two_digits : (n : ℕ) (size : List ℕ) → IsCount 2 n size → (size ≡ (0xF0 + n / 10) ∷ (0xF0 + n % 10) ∷ []) × (n < 100)
two_digits n [] h = absurd (omega (arith, h.0))
two_digits n (x ∷ []) h = absurd (omega (arith, h.0))
two_digits n (x ∷ y ∷ []) (long, are, e) =
    let high : x ≡ 0xF0 + n / 10 = omega (arith, are.0, are.1, are.2.0, are.2.1, e) in
    let low : y ≡ 0xF0 + n % 10 = omega (arith, are.0, are.1, are.2.0, are.2.1, e) in
    (cc (high, low), omega (arith, are.0, are.1, are.2.0, are.2.1, e))
two_digits n (x ∷ y ∷ z ∷ size) h = absurd (omega (arith, h.0))

three_digits : (n : ℕ) (size : List ℕ) → IsCount 3 n size → (size ≡ (0xF0 + n / 100) ∷ (0xF0 + n / 10 % 10) ∷ (0xF0 + n % 10) ∷ []) × (n < 1000)
three_digits n [] h = absurd (omega (arith, h.0))
three_digits n (x ∷ []) h = absurd (omega (arith, h.0))
three_digits n (x ∷ y ∷ []) h = absurd (omega (arith, h.0))
three_digits n (x ∷ y ∷ z ∷ []) (long, are, e) =
    let high : x ≡ 0xF0 + n / 100 = omega (arith, are.0, are.1, are.2.0, are.2.1, are.2.2.0, are.2.2.1, e) in
    let middle : y ≡ 0xF0 + n / 10 % 10 = omega (arith, are.0, are.1, are.2.0, are.2.1, are.2.2.0, are.2.2.1, e) in
    let low : z ≡ 0xF0 + n % 10 = omega (arith, are.0, are.1, are.2.0, are.2.1, are.2.2.0, are.2.2.1, e) in
    (cc (high, middle, low), omega (arith, are.0, are.1, are.2.0, are.2.1, are.2.2.0, are.2.2.1, e))
three_digits n (x ∷ y ∷ z ∷ w ∷ size) h = absurd (omega (arith, h.0))

-- what comes before a content is one list
pub head_spelled : (o : Option Shape) (digits : Bool) (n : ℕ) (size : List ℕ) → IsHead o digits n size → (size ≡ count_bytes o n) × (count_holds o n ≡ true)
head_spelled None d n s h = absurd h
head_spelled (Some (Fixed m)) d n s h = (h.2, refl)
head_spelled (Some (Digits m)) d n s h = (h.2, refl)
head_spelled (Some Ll) d n s h = let two = two_digits n s h.1 in (two.0, lt-ltb n 100 two.1)
head_spelled (Some Lll) d n s h = let three = three_digits n s h.1 in (three.0, lt-ltb n 1000 three.1)
head_spelled (Some Tree) d n s h = absurd h

pub count_size : (o : Option Shape) (n : ℕ) → length (count_bytes o n) ≡ count_digits o
count_size None n = refl
count_size (Some (Fixed m)) n = refl
count_size (Some (Digits m)) n = refl
count_size (Some Ll) n = refl
count_size (Some Lll) n = refl
count_size (Some Tree) n = refl

pub field_spelled : (f : Field) (s : List ℕ) → FieldOf shortest f s → s ≡ spelling_of f
field_spelled (plain bmp content) s p = p.whole ∙ ap (λ (size : List ℕ). bmp ∷ (size ++ content)) (head_spelled (shape_of bmp) p.digits (length content) p.size p.is_head).0
field_spelled (tree bmp objects) s p = p.whole ∙ ap (λ (one : List ℕ). bmp ∷ one) (sized_spelled objects p.one p.sized)

pub list_spelled : (fs : List Field) (s : List ℕ) → FieldList shortest fs s → s ≡ spelling_of_all fs
list_spelled [] s p = p
list_spelled (f ∷ fs) s (one, after, whole, p, more) =
    whole ∙ ap (λ (v : List ℕ). v ++ after) (field_spelled f one p) ∙ ap (λ (v : List ℕ). spelling_of f ++ v) (list_spelled fs after more)

pub field_sized : (f : Field) → length (spelling_of f) ≡ size_of_field f
field_sized (plain bmp content) = omega (arith, length-append (count_bytes (shape_of bmp) (length content)) content, count_size (shape_of bmp) (length content))
field_sized (tree bmp objects) = omega (arith, sized_size objects)

-- lists one after another
pub all_joined : (fs gs : List Field) → spelling_of_all (fs ++ gs) ≡ spelling_of_all fs ++ spelling_of_all gs
all_joined [] gs = refl
all_joined (f ∷ fs) gs = ap (λ (v : List ℕ). spelling_of f ++ v) (all_joined fs gs) ∙ sym (append_assoc (spelling_of f) (spelling_of_all fs) (spelling_of_all gs))

-- what has a spelling has the size that its BMP asks for
spelled_agrees : (s : Shape) (bmp : ℕ) (content : List ℕ) (digits : Bool) (size : List ℕ) → IsHead (Some s) digits (length content) size → IsContent digits content →
    (size_agrees s (plain bmp content) ≡ true) × DigitsAgree s (plain bmp content)
spelled_agrees (Fixed m) bmp content d size h c = (eq-eqb (length content) m h.1, tt)
spelled_agrees (Digits m) bmp content d size h c = (eq-eqb (length content) m h.1, subst (λ (k : Bool). IsContent k content) h.0 c)
spelled_agrees Ll bmp content d size h c = (lt-ltb (length content) 100 (two_digits (length content) size h.1).1, tt)
spelled_agrees Lll bmp content d size h c = (lt-ltb (length content) 1000 (three_digits (length content) size h.1).1, tt)
spelled_agrees Tree bmp content d size h c = absurd h

pub agrees : (f : Field) (s : Shape) → HasSpelling f → shape_of (name_of f) ≡ Some s → (size_agrees s f ≡ true) × DigitsAgree s f
agrees (plain bmp content) s h is =
    let p = h.spelled in
    spelled_agrees s bmp content p.digits p.size (subst (λ (o : Option Shape). IsHead o p.digits (length content) p.size) is p.is_head) p.is_content
agrees (tree bmp objects) s h is =
    let same : s ≡ Tree = cc (is, h.spelled.is_tree) in
    let small : 1 + (tlv.length_size (tlv.size_of objects) + tlv.size_of objects) < 65536 = omega (arith, h.small, ap length (field_spelled (tree bmp objects) h.bytes h.spelled), sized_size objects) in
    subst (λ (t : Shape). (size_agrees t (tree bmp objects) ≡ true) × DigitsAgree t (tree bmp objects)) (sym same) (lt-ltb _ 65536 small, tt)

pub listed : (f : Field) → HasSpelling f → shape_of (name_of f) ≡ None → ⊥
listed (plain bmp content) h is = let p = h.spelled in subst (λ (o : Option Shape). IsHead o p.digits (length content) p.size) is p.is_head
listed (tree bmp objects) h is = cc (is, h.spelled.is_tree)

-- and what has the parts and the size has a spelling
head_agrees : (s : Shape) (bmp : ℕ) (content : List ℕ) → IsSane (Some s) → size_agrees s (plain bmp content) ≡ true → DigitsAgree s (plain bmp content) → AreParts (plain bmp content) →
    (digits : Bool) × IsHead (Some s) digits (length content) (count_bytes (Some s) (length content)) × IsContent digits content × (length content < 1000)
head_agrees (Fixed m) bmp content ok size digits parts = let e = eqb-true (length content) m size in (false, (refl, e, refl), parts, omega (arith, ok.1))
head_agrees (Digits m) bmp content ok size digits parts = let e = eqb-true (length content) m size in (true, (refl, e, refl), digits, omega (arith, ok.1))
head_agrees Ll bmp content ok size digits parts =
    let lt = ltb-true (length content) 100 size in
    (false, (refl, (refl, (omega arith, omega arith, (omega arith, omega arith, tt)), omega arith)), parts, omega arith)
head_agrees Lll bmp content ok size digits parts =
    let lt = ltb-true (length content) 1000 size in
    (false, (refl, (refl, (omega arith, omega arith, (omega arith, omega arith, (omega arith, omega arith, tt))), omega arith)), parts, lt)
head_agrees Tree bmp content ok size digits parts = absurd (cc (size))

tree_agrees : (s : Shape) (bmp : ℕ) (objects : Objects) → size_agrees s (tree bmp objects) ≡ true → (s ≡ Tree) × (1 + (tlv.length_size (tlv.size_of objects) + tlv.size_of objects) < 65536)
tree_agrees (Fixed m) bmp objects e = absurd (cc (e))
tree_agrees (Digits m) bmp objects e = absurd (cc (e))
tree_agrees Ll bmp objects e = absurd (cc (e))
tree_agrees Lll bmp objects e = absurd (cc (e))
tree_agrees Tree bmp objects e = (refl, ltb-true _ 65536 e)

pub has_spelling : (f : Field) (s : Shape) → shape_of (name_of f) ≡ Some s → size_agrees s f ≡ true → DigitsAgree s f → AreParts f → HasSpelling f
has_spelling (plain bmp content) s is size digits parts =
    let h = head_agrees s bmp content (subst IsSane is (sane bmp)) size digits parts in
    record {
      bytes = spelling_of (plain bmp content);
      spelled = record {
        digits = h.0;
        size = count_bytes (shape_of bmp) (length content);
        whole = refl;
        is_head = subst (λ (o : Option Shape). IsHead o h.0 (length content) (count_bytes o (length content))) (sym is) h.1;
        is_content = h.2;
      };
      small = omega (arith, field_sized (plain bmp content), counts_small (shape_of bmp), h.3);
    }
has_spelling (tree bmp objects) s is size digits parts =
    let t = tree_agrees s bmp objects size in
    record {
      bytes = spelling_of (tree bmp objects);
      spelled = record { one = sized_spelling objects; whole = refl; is_tree = is ∙ ap (λ (x : Shape). Some x) t.0; sized = spelled_sized objects parts };
      small = omega (arith, field_sized (tree bmp objects), t.1);
    }

-- a size that is stored is that of each spelling
pub size_once : (fs gs : List Field) (size : ℕ) (bytes : List ℕ) → HaveSize fs size → fs ≡ gs → FieldList shortest gs bytes → size ≡ length bytes
size_once fs gs size bytes h same p =
    omega (arith, h.sized, ap length (list_spelled fs h.bytes h.spelled), ap (λ (x : List Field). length (spelling_of_all x)) same, ap length (list_spelled gs bytes p))

pub size_known : (fs gs : List Field) (size : ℕ) → HaveSize fs size → fs ≡ gs → HaveSpelling gs
size_known fs gs size h same = subst HaveSpelling same (record { bytes = h.bytes; spelled = h.spelled; small = omega (arith, h.sized, h.small) })

pub length_few : (n : ℕ) → tlv.length_size n ≤ 3
length_few n = few (nat_lt n 128) (nat_lt n 256)
  where
    few : (b c : Bool) → cond b 1 (cond c 2 3) ≤ 3
    few true c = omega arith
    few false true = omega arith
    few false false = omega arith
