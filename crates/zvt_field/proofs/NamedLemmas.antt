-- The fields of one BMP.
use Rattle.std.proofs.Common.{◌≡◌, ◌↔◌, ℕ, ◌+◌, ◌^◌, ◌<◌, ◌≤◌, Bool, true, Option, Some, None, List, [], ◌∷◌, ◌++◌, length, take, drop, get_or, refl, sym, ◌∙◌, ap, subst, arith, length-append, filter, is_some, All, IsSome, IfSome, option_and_then, suc, zero}
use Rattle.std.specs.Option.{option_copied, option_map}
use Rattle.std.proofs.lemmas.Bool.{cond-true, cond-false, eq-eqb, eqb-true, ne_eqb}
use Rattle.std.proofs.lemmas.List.{take_more, take-append-drop}
use Rattle.std.proofs.lemmas.List.Elements.{filter-append, filter_passes}
use denote.Bor.{Bor}
use Rattle.std.specs.declared.vec.Vec.{Vec}
use Rattle.std.specs.declared.alloc.Global.{Global}
use Rattle.zvt_bcd.specs.Digits.{AreDigits, number_of}
use Rattle.zvt_field.specs.declared.bodies.FieldBody.{FieldBody}
use Rattle.zvt_field.specs.declared.bodies.FieldBody.TheVariants.{Bytes}
use Rattle.zvt_field.specs.declared.shapes.Shape.{Shape}
use Rattle.zvt_field.specs.declared.shapes.Shape.TheVariants.{Fixed, Digits}
use Rattle.zvt_field.specs.Shapes.{shape_of}
use Rattle.zvt_field.specs.Grammar.{Field, plain, IsHead, IsContent, Plain}
use Rattle.zvt_field.specs.Bodies.{name_of, field_of, HasSpelling}
use Rattle.zvt_field.specs.Named.{is_named, sole, only_of, content_of, positive, amount_of, trace_of, currency_of}

-- those that stand so far, and the one that was found
pub record FoundTo (bmp : ℕ) (fs : List Field) (i : ℕ) (found : Option (Bor Field)) : Type 0 where
  pub is_sole : option_copied found ≡ sole (filter (is_named bmp) (take i fs))
  pub few : length (filter (is_named bmp) (take i fs)) ≤ 1

more_named : (bmp : ℕ) (fs : List Field) (i : ℕ) (f : Field) → i < length fs → f ≡ get_or fs i f → filter (is_named bmp) (take (i + 1) fs) ≡ filter (is_named bmp) (take i fs) ++ filter (is_named bmp) (f ∷ [])
more_named bmp fs i f lt is =
    ap (filter (is_named bmp)) (take_more fs i f lt ∙ ap (λ (x : Field). take i fs ++ x ∷ []) (sym is)) ∙ filter-append (is_named bmp) (take i fs) (f ∷ [])

named : (bmp n : ℕ) (f : Field) → n ≡ name_of f → n ≡ bmp → filter (is_named bmp) (f ∷ []) ≡ f ∷ []
named bmp n f name eq = cond-true (is_named bmp f) (f ∷ []) [] (eq-eqb (name_of f) bmp (sym name ∙ eq))

sole_many : (l : List Field) → 2 ≤ length l → sole l ≡ None
sole_many [] le = refl
sole_many (x ∷ []) le = absurd (omega arith)
sole_many (x ∷ y ∷ l) le = refl

some_found : (l : List Field) (f : Field) → sole l ≡ Some f → 1 ≤ length l
some_found [] f e = absurd (cc (e))
some_found (x ∷ l) f e = omega arith

pub found_two : (bmp : ℕ) (fs gs : List Field) (i n : ℕ) (f g : Field) (found : Option (Bor Field)) → FoundTo bmp fs i found → fs ≡ gs → i < length fs → f ≡ get_or fs i f → n ≡ name_of f → n ≡ bmp → option_copied found ≡ Some g →
    None ≡ only_of bmp gs
found_two bmp fs gs i n f g found h same lt is name eq some =
    let before = some_found (filter (is_named bmp) (take i fs)) g (sym h.is_sole ∙ some) in
    let whole : filter (is_named bmp) fs ≡ filter (is_named bmp) (take (i + 1) fs) ++ filter (is_named bmp) (drop (i + 1) fs) =
    ap (filter (is_named bmp)) (sym (take-append-drop (i + 1) fs)) ∙ filter-append (is_named bmp) (take (i + 1) fs) (drop (i + 1) fs) in
    let many : 2 ≤ length (filter (is_named bmp) fs) =
    omega (
      arith,
      before,
      ap length whole,
      length-append (filter (is_named bmp) (take (i + 1) fs)) (filter (is_named bmp) (drop (i + 1) fs)),
      ap length (more_named bmp fs i f lt is),
      length-append (filter (is_named bmp) (take i fs)) (filter (is_named bmp) (f ∷ [])),
      ap length (named bmp n f name eq),
    ) in
    sym (sole_many (filter (is_named bmp) fs) many) ∙ ap (only_of bmp) same

-- what was found is some field
pub some_copied : (found : Option (Bor Field)) → true ≡ is_some found → (g : Field) × (option_copied found ≡ Some g)
some_copied None e = absurd (cc (e))
some_copied (Some r) e = (r.now, refl)

-- the only field of a BMP has that BMP
pub sole_named : (bmp : ℕ) (l : List Field) (f : Field) → All (λ x. is_named bmp x ≡ true) l → sole l ≡ Some f → name_of f ≡ bmp
sole_named bmp [] f all e = absurd (cc (e))
sole_named bmp (x ∷ []) f all e = let same : f ≡ x = cc (e) in ap name_of same ∙ eqb-true (name_of x) bmp (all 0 x (omega arith))
sole_named bmp (x ∷ y ∷ l) f all e = absurd (cc (e))

pub content_spelled : (bmp : ℕ) (fs : List Field) (f : Field) (body : FieldBody) (v : Vec ℕ Global) (content : List ℕ) → Some f ≡ only_of bmp fs → HasSpelling f → field_of (name_of f) body ≡ f → body ≡ Bytes v → content ≡ v.items →
    HasSpelling (plain bmp content)
content_spelled bmp fs f body v content only h same is all =
    let name = sole_named bmp (filter (is_named bmp) fs) f (filter_passes (is_named bmp) fs) (sym only) in
    let e : f ≡ plain bmp content = sym same ∙ ap (field_of (name_of f)) is ∙ ap (λ (b : ℕ). plain b v.items) name ∙ ap (plain bmp) (sym all) in
    subst HasSpelling e h

-- a content of a fixed size
pub digits_of : (bmp n : ℕ) (content bytes : List ℕ) → shape_of bmp ≡ Some (Digits n) → Plain bmp content bytes → AreDigits content × (length content ≡ n)
digits_of bmp n content bytes e p =
    let head = subst (λ (o : Option Shape). IsHead o p.digits (length content) p.size) e p.is_head in
    (subst (λ (d : Bool). IsContent d content) head.0 p.is_content, head.1)

pub fixed_of : (bmp n : ℕ) (content bytes : List ℕ) → shape_of bmp ≡ Some (Fixed n) → Plain bmp content bytes → length content ≡ n
fixed_of bmp n content bytes e p = (subst (λ (o : Option Shape). IsHead o p.digits (length content) p.size) e p.is_head).1

pub amount_digits : (content : List ℕ) → HasSpelling (plain 0x04 content) → AreDigits content × (length content ≡ 6)
unfolding shape_of
amount_digits content h = digits_of 0x04 6 content h.bytes refl h.spelled

pub trace_digits : (content : List ℕ) → HasSpelling (plain 0x0B content) → AreDigits content × (length content ≡ 3)
unfolding shape_of
trace_digits content h = digits_of 0x0B 3 content h.bytes refl h.spelled

pub currency_digits : (content : List ℕ) → HasSpelling (plain 0x49 content) → AreDigits content × (length content ≡ 2)
unfolding shape_of
currency_digits content h = digits_of 0x49 2 content h.bytes refl h.spelled

pub receipt_size : (content : List ℕ) → HasSpelling (plain 0x87 content) → length content ≡ 2
unfolding shape_of
receipt_size content h = fixed_of 0x87 2 content h.bytes refl h.spelled

pub original_size : (content : List ℕ) → HasSpelling (plain 0x37 content) → length content ≡ 3
unfolding shape_of
original_size content h = fixed_of 0x37 3 content h.bytes refl h.spelled

-- a value that is made within its bounds
pub made : (r : Option ℕ) (n : ℕ) → IsSome r → IfSome r (λ v. v ≡ n) → r ≡ Some n
made None n some is = absurd (cc (some))
made (Some v) n some is = ap (λ (x : ℕ). Some x) is

pub made_positive : (r : Option ℕ) (n : ℕ) → (1 ≤ n → IsSome r) → (IsSome r → 1 ≤ n) → IfSome r (λ v. v ≡ n) → r ≡ positive n
made_positive None zero some least is = refl
made_positive None (suc n) some least is = absurd (let h = some (omega arith) in cc (h))
made_positive (Some v) zero some least is = absurd (let h = least refl in omega arith)
made_positive (Some v) (suc n) some least is = ap (λ (x : ℕ). Some x) is ∙ sym (cond-false _ None (Some (suc n)) (ne_eqb (suc n) 0 (λ e. omega arith)))

below_power : (content : List ℕ) (k n : ℕ) → n < 100 ^ length content → length content ≡ k → n < 100 ^ k
below_power content k n lt e = subst (λ (i : ℕ). n < 100 ^ i) e lt

pub trace_small : (content : List ℕ) (n : ℕ) → n < 100 ^ length content → length content ≡ 3 → n ≤ 999999
trace_small content n lt e = let below = below_power content 3 n lt e in omega arith

pub currency_small : (content : List ℕ) (n : ℕ) → n < 100 ^ length content → length content ≡ 2 → n ≤ 9999
currency_small content n lt e = let below = below_power content 2 n lt e in omega arith

pub amount_small : (content : List ℕ) (n : ℕ) → n < 100 ^ length content → length content ≡ 6 → n ≤ 999999999999
amount_small content n lt e = let below = below_power content 6 n lt e in omega arith

pub is_amount : (fs : List Field) (content : List ℕ) (n : ℕ) (r : Option ℕ) → Some content ≡ content_of 0x04 fs → n ≡ number_of content → n ≤ 999999999999 → IsSome r ↔ ((1 ≤ n) × (n ≤ 999999999999)) → IfSome r (λ v. v ≡ n) → r ≡ amount_of fs
is_amount fs content n r e number small given value =
    made_positive r n (λ le. given.1 (le, small)) (λ some. (given.0 some).0) value ∙ ap positive number ∙ ap (option_and_then (λ digits. positive (number_of digits))) e

pub is_trace : (fs : List Field) (content : List ℕ) (n : ℕ) (r : Option ℕ) → Some content ≡ content_of 0x0B fs → n ≡ number_of content → n ≤ 999999 → IsSome r ↔ (n ≤ 999999) → IfSome r (λ v. v ≡ n) → r ≡ trace_of fs
is_trace fs content n r e number small given value = made r n (given.1 small) value ∙ ap (λ (x : ℕ). Some x) number ∙ ap (option_map number_of) e

pub is_currency : (fs : List Field) (content : List ℕ) (n : ℕ) (r : Option ℕ) → Some content ≡ content_of 0x49 fs → n ≡ number_of content → n ≤ 9999 → IsSome r ↔ (n ≤ 9999) → IfSome r (λ v. v ≡ n) → r ≡ currency_of fs
is_currency fs content n r e number small given value = made r n (given.1 small) value ∙ ap (λ (x : ℕ). Some x) number ∙ ap (option_map number_of) e
