-- Where no field is whole yet.
use Rattle.std.proofs.Common.{◌≡◌, ℕ, ◌+◌, ◌<◌, ◌≤◌, Bool, Option, Some, None, List, [], ◌∷◌, ◌++◌, length, take, drop, refl, sym, ◌∙◌, ap, subst, append_assoc, arith, length-append, suc}
use Rattle.std.proofs.lemmas.List.{append-nil, length-take, length-take-le, take-append-drop}
use Rattle.zvt_grammar.specs.Reading.{Reading}
use Rattle.zvt_grammar.specs.Beginnings.{NoneWhole}
use Rattle.zvt_tlv.specs.Grammar.{Objects}
use Rattle.zvt_tlv.specs.Sized.{SizedIn}
use Rattle.zvt_field.specs.declared.shapes.Shape.{Shape}
use Rattle.zvt_field.specs.declared.shapes.Shape.TheVariants.{Fixed, Digits, Ll, Lll, Tree}
use Rattle.zvt_field.specs.Shapes.{shape_of}
use Rattle.zvt_field.specs.Grammar.{Field, plain, tree, IsHead, FieldOf}
use Rattle.zvt_field.specs.Judging.{count_digits}
use Rattle.zvt_field.specs.declared.reader.Head.{Head}
use Rattle.zvt_field.specs.Answers.{HeadFound}
use Rattle.zvt_field.proofs.FieldLists.{head_prefix, sized_prefix, field_size}

-- a field at the start of the bytes has at least that many
pub record Least (r : Reading) (bytes : List ℕ) (least : ℕ) : Type 0 where
  pub holds : (f : Field) (prefix rest : List ℕ) → bytes ≡ prefix ++ rest → FieldOf r f prefix → least ≤ length prefix

short_take : (k : ℕ) (bytes : List ℕ) → length (take k bytes) ≤ k
short_take k bytes = omega (arith, length-take k bytes)

pub none_in : (r : Reading) (bytes : List ℕ) (n : ℕ) → Least r bytes n → length bytes < n → NoneWhole (FieldOf r) bytes
none_in r bytes n l few f prefix rest e p = absurd (omega (arith, l.holds f prefix rest e p, ap length e, length-append prefix rest))

pub none_before : (r : Reading) (bytes : List ℕ) (n k : ℕ) → Least r bytes n → k < n → NoneWhole (FieldOf r) (take k bytes)
none_before r bytes n k l few f prefix rest e p =
    let whole : bytes ≡ prefix ++ (rest ++ drop k bytes) = sym (take-append-drop k bytes) ∙ ap (λ (s : List ℕ). s ++ drop k bytes) e ∙ append_assoc prefix rest (drop k bytes) in
    absurd (omega (arith, l.holds f prefix (rest ++ drop k bytes) whole p, ap length e, length-append prefix rest, short_take k bytes))

-- two bytes at least
pub least_two : (r : Reading) (bytes : List ℕ) → Least r bytes 2
least_two r bytes = record { holds = λ f prefix rest e p. field_size r f prefix p }

-- a length of digits is in it
head_count : (o : Option Shape) (digits : Bool) (n : ℕ) (size : List ℕ) → IsHead o digits n size → count_digits o ≡ length size
head_count None d n size p = absurd p
head_count (Some (Fixed m)) d n size p = sym (ap length p.2)
head_count (Some (Digits m)) d n size p = sym (ap length p.2)
head_count (Some Ll) d n size p = sym p.1.0
head_count (Some Lll) d n size p = sym p.1.0
head_count (Some Tree) d n size p = absurd p

pub least_named : (r : Reading) (bytes : List ℕ) (k bmp digits : ℕ) (size : List ℕ) → take k bytes ≡ bmp ∷ size → count_digits (shape_of bmp) ≡ digits → 1 ≤ digits → Least r bytes (suc digits)
least_named r bytes k bmp digits size begins counts some = record { holds = λ f. of f }
  where
    start : (prefix rest : List ℕ) → bytes ≡ prefix ++ rest → bmp ∷ (size ++ drop k bytes) ≡ prefix ++ rest
    start prefix rest e = ap (λ (s : List ℕ). s ++ drop k bytes) (sym begins) ∙ take-append-drop k bytes ∙ e

    of : (f : Field) (prefix rest : List ℕ) → bytes ≡ prefix ++ rest → FieldOf r f prefix → suc digits ≤ length prefix
    of (plain bmp' c) prefix rest e p =
        let whole : bmp ∷ (size ++ drop k bytes) ≡ bmp' ∷ ((p.size ++ c) ++ rest) = start prefix rest e ∙ ap (λ (s : List ℕ). s ++ rest) p.whole in
        let names : bmp ≡ bmp' = cc (whole) in
        omega (arith, ap length p.whole, length-append p.size c, head_count (shape_of bmp') p.digits (length c) p.size p.is_head, counts, ap (λ (n : ℕ). count_digits (shape_of n)) names)
    of (tree bmp' o) prefix rest e p =
        let whole : bmp ∷ (size ++ drop k bytes) ≡ bmp' ∷ (p.one ++ rest) = start prefix rest e ∙ ap (λ (s : List ℕ). s ++ rest) p.whole in
        let names : bmp ≡ bmp' = cc (whole) in
        absurd (omega (arith, counts, ap (λ (n : ℕ). count_digits (shape_of n)) names, ap count_digits p.is_tree))

-- a head and the content that it announces
pub least_head : (r : Reading) (room : ℕ) (bytes : List ℕ) (head : Head) → HeadFound r room bytes head → Least r bytes (head.start + head.size)
least_head r room bytes head h = record { holds = λ f. of f }
  where
    after : List ℕ
    after = drop head.start bytes

    start : (prefix rest : List ℕ) → bytes ≡ prefix ++ rest → h.bmp ∷ (h.size ++ after) ≡ prefix ++ rest
    start prefix rest e = ap (λ (s : List ℕ). s ++ after) (sym h.whole) ∙ take-append-drop head.start bytes ∙ e

    of : (f : Field) (prefix rest : List ℕ) → bytes ≡ prefix ++ rest → FieldOf r f prefix → head.start + head.size ≤ length prefix
    of (plain bmp' c) prefix rest e p =
        let whole : h.bmp ∷ (h.size ++ after) ≡ bmp' ∷ (p.size ++ (c ++ rest)) = start prefix rest e ∙ ap (λ (s : List ℕ). s ++ rest) p.whole ∙ ap (λ (s : List ℕ). bmp' ∷ s) (append_assoc p.size c rest) in
        let names : h.bmp ≡ bmp' = cc (whole) in
        let same = head_prefix (shape_of bmp') head.digits p.digits head.size (length c) h.size p.size after (c ++ rest)
        (subst (λ (n : ℕ). IsHead (shape_of n) head.digits head.size h.size) names h.is_head) p.is_head (cc (whole)) in
        omega (arith, ap length p.whole, length-append p.size c, ap length h.whole, length-take-le head.start bytes h.present, same.numbers, ap length same.sizes)
    of (tree bmp' o) prefix rest e p =
        let whole : h.bmp ∷ (h.size ++ after) ≡ bmp' ∷ (p.one ++ rest) = start prefix rest e ∙ ap (λ (s : List ℕ). s ++ rest) p.whole in
        let names : h.bmp ≡ bmp' = cc (whole) in
        absurd (subst (λ (o : Option Shape). IsHead o head.digits head.size h.size) (ap shape_of names ∙ p.is_tree) h.is_head)

-- what begins a length and its objects, and holds none, holds none after a container's name
pub none_inside : (r : Reading) (bmp level : ℕ) (inside rest : List ℕ) (o : Objects) → shape_of bmp ≡ Some Tree → SizedIn r level o (inside ++ rest) → (SizedIn r level o inside → ⊥) → NoneWhole (FieldOf r) (bmp ∷ inside)
none_inside r bmp level inside rest o is s none (plain bmp' c) prefix after e p =
    let whole : bmp ∷ inside ≡ bmp' ∷ ((p.size ++ c) ++ after) = e ∙ ap (λ (s : List ℕ). s ++ after) p.whole in
    let names : bmp ≡ bmp' = cc (whole) in
    absurd (subst (λ (o : Option Shape). IsHead o p.digits (length c) p.size) (ap shape_of (sym names) ∙ is) p.is_head)
none_inside r bmp level inside rest o is s none (tree bmp' o') prefix after e p =
    let whole : bmp ∷ inside ≡ bmp' ∷ (p.one ++ after) = e ∙ ap (λ (s : List ℕ). s ++ after) p.whole in
    let insides : inside ≡ p.one ++ after = cc (whole) in
    let same = sized_prefix r o' o p.one (inside ++ rest) (after ++ rest) [] p.sized s.spelled
    (sym (append_assoc p.one after rest) ∙ ap (λ (s : List ℕ). s ++ rest) (sym insides) ∙ sym (append-nil (inside ++ rest))) in
    none (subst (SizedIn r level o) (ap (λ (s : List ℕ). inside ++ s) (ended rest (omega (arith, ap length same.0, length-append inside rest, ap length insides, length-append p.one after))) ∙ append-nil inside) s)
  where
    ended : (s : List ℕ) → length s ≤ 0 → s ≡ []
    ended [] le = refl
    ended (x ∷ s) le = absurd (omega arith)
