-- The bytes of fields: names, digits of lengths, contents.
use Rattle.std.proofs.Common.{◌≡◌, ◌≢◌, ℕ, ◌+◌, ◌*◌, ◌^◌, ◌-◌, ◌<◌, ◌≤◌, nat_le, Bool, true, false, Option, Some, None, Ok, List, [], ◌∷◌, ◌++◌, length, refl, sym, ◌∙◌, ap, subst, append_assoc, arith, length-append, suc, zero}
use Rattle.std.proofs.lemmas.Bool.{leb-true}
use Rattle.std.proofs.lemmas.List.{append-nil}
use Rattle.std.proofs.lemmas.List.Elements.{All-push, All-nil}
use Rattle.zvt_bcd.specs.Digits.{IsDigitPair, is_digit_pair}
use Rattle.zvt_bcd.specs.LengthDigits.{counted}
use Rattle.zvt_bcd.proofs.PairTests.{is_pair}
use Rattle.zvt_grammar.specs.declared.why.Why.TheVariants.{DoesNotFit, NotDigit, LengthDigit}
use Rattle.zvt_grammar.specs.Reading.{Reading, shortest}
use Rattle.zvt_grammar.specs.Tests.{fits}
use Rattle.zvt_tlv.proofs.Alive.{bytes_joined}
use Rattle.zvt_tlv.specs.declared.judge.LengthAt.TheVariants.{First}
use Rattle.zvt_field.specs.declared.shapes.Shape.{Shape}
use Rattle.zvt_field.specs.declared.shapes.Shape.TheVariants.{Fixed, Digits, Ll, Lll, Tree}
use Rattle.zvt_field.specs.Shapes.{shape_of}
use Rattle.zvt_field.specs.Grammar.{Field, plain, FieldOf, IsHead, IsContent}
use Rattle.zvt_field.specs.Judging.{name, digit, in_content, count_digits, Begins, name_fault, count_fits, is_length_digit, fault}
use Rattle.zvt_field.proofs.FieldLists.{sane, IsSane}
use Rattle.zvt_field.proofs.Counts.{digits_joined, counted_joined, count_head, length_digit}
use Rattle.zvt_stream.specs.Parts as stage
use Rattle.zvt_stream.specs.Parts.{Within, Ends}
use Rattle.zvt_stream.specs.DecoderState.{HasDigits, AtField, FieldContent, ContainerLength, Between, IsEmpty}
use Rattle.zvt_stream.specs.Moves.{Judges}
use Rattle.zvt_stream.proofs.LevelLemmas.{field_more, field_done}
use Rattle.zvt_stream.proofs.ContentMoves.{room_less, room_over, one_less, some_left}
use Rattle.zvt_stream.proofs.TlvMoves.{passed, fits_over}

between_fields : (r : Reading) (left : ℕ) (outer b : List ℕ) → outer ≡ 0 ∷ [] → left ≢ 1 → AtField r left b IsEmpty → Between r left outer b
between_fields r left outer b e ne a = subst (λ (o : List ℕ). Between r left o b) (sym e) (refl, ne, a)

-- a byte of a content
abbrev pub Passes : (digits : Bool) → (x : ℕ) → Type 0
Passes digits x = (l : ℕ) → fault shortest (in_content digits) l x ≡ None

-- the test is the same in both readings
alike : (r : Reading) (digits : Bool) (l x : ℕ) → Passes digits x → fault r (in_content digits) l x ≡ None
alike r true l x h = h l
alike r false l x h = h l

content_more : (digits : Bool) (x : ℕ) (part : List ℕ) → x < 256 → Passes digits x → IsContent digits part → IsContent digits (part ++ x ∷ [])
content_more true x part lt h are = All-push IsDigitPair part x are (is_pair x (passed (is_digit_pair x) NotDigit None (h 0)).0)
content_more false x part lt h are = bytes_joined part (x ∷ []) are (lt, tt)

part_more : (digits : Bool) (more x : ℕ) → x < 256 → Passes digits x → 0 < more → (s : List ℕ) → FieldContent digits more s → FieldContent digits (more - 1) (s ++ x ∷ [])
part_more digits more x lt h some s (bmp, size, part, n, w, head, e, are) =
    (bmp, size, part ++ x ∷ [], n, ap (λ (s : List ℕ). s ++ x ∷ []) w ∙ ap (λ (s : List ℕ). bmp ∷ s) (append_assoc size part (x ∷ [])), head, omega (arith, length-append part (x ∷ []), e, some), content_more digits x part lt h are)

content_done : (r : Reading) (digits : Bool) (s : List ℕ) → FieldContent digits 0 s → (f : Field) × FieldOf r f s
content_done r digits s (bmp, size, part, n, w, head, e, are) =
    let whole : n ≡ length part = omega (arith, e) in
    (plain bmp part, record { digits = digits; size = size; whole = w; is_head = subst (λ (k : ℕ). IsHead (shape_of bmp) digits k size) whole head; is_content = are })

pub content_within : (r : Reading) (digits : Bool) (more left depth x : ℕ) → x < 256 → Passes digits x → more ≢ 1 → Judges r (stage.Content digits more) left depth x (Ok (Within (stage.Content digits (more - 1)) (left - 1)))
content_within r digits more left depth x lt h ne outer b e (is, room, a) =
    (alike r digits (left - 1) x h, (is, room_less more left room ne, field_more r left (left - 1) b x _ _ a (part_more digits more x lt h room.0) (one_less left (some_left more left room))))

pub content_ends : (r : Reading) (digits : Bool) (more left depth x : ℕ) → x < 256 → Passes digits x → more ≡ 1 → Judges r (stage.Content digits more) left depth x (Ok (Ends (left - 1)))
content_ends r digits more left depth x lt h one outer b e (is, room, a) =
    let m = field_more r left (left - 1) b x _ (FieldContent digits (more - 1)) a (part_more digits more x lt h room.0) (one_less left (some_left more left room)) in
    let zero : more - 1 ≡ 0 = omega (arith, one) in
    (alike r digits (left - 1) x h, between_fields r (left - 1) outer (b ++ x ∷ []) is (room_over more left room one) (field_done r (left - 1) (b ++ x ∷ []) _ m (λ s c. content_done r digits s (subst (λ (k : ℕ). FieldContent digits k s) zero c))))

-- a name
one_byte : (x : ℕ) (s : List ℕ) → s ≡ [] → s ++ x ∷ [] ≡ x ∷ []
one_byte x s e = ap (λ (t : List ℕ). t ++ x ∷ []) e

name_fits : (r : Reading) (x left : ℕ) (shape : Shape) → fault r name left x ≡ None → shape_of x ≡ Some shape → name_fault r (Some shape) left ≡ None
name_fits r x left shape f is = ap (λ (o : Option Shape). name_fault r o left) (sym is) ∙ f

sane_shape : (x : ℕ) (shape : Shape) → shape_of x ≡ Some shape → IsSane (Some shape)
sane_shape x shape is = subst IsSane is (sane x)

pub name_fixed : (r : Reading) (n left depth x : ℕ) → 2 ≤ left → fault r name (left - 1) x ≡ None → shape_of x ≡ Some (Fixed n) → Judges r stage.Name left depth x (Ok (Within (stage.Content false n) (left - 1)))
name_fixed r n left depth x some f is outer b e (o, le, a) =
    let over = fits_over n (left - 1) (passed (fits n (left - 1)) DoesNotFit None (name_fits r x (left - 1) (Fixed n) f is)).0 in
    let head : IsHead (shape_of x) false n [] = subst (λ (s : Option Shape). IsHead s false n []) (sym is) (refl, refl, refl) in
    let positive : 0 < n = omega (arith, (sane_shape x (Fixed n) is).0) in
    (f, (o, (positive, over), field_more r left (left - 1) b x IsEmpty (FieldContent false n) a (λ s z. (x, [], [], n, one_byte x s z, head, omega arith, tt)) (one_less left (omega (arith, some)))))

pub name_digits : (r : Reading) (n left depth x : ℕ) → 2 ≤ left → fault r name (left - 1) x ≡ None → shape_of x ≡ Some (Digits n) → Judges r stage.Name left depth x (Ok (Within (stage.Content true n) (left - 1)))
name_digits r n left depth x some f is outer b e (o, le, a) =
    let over = fits_over n (left - 1) (passed (fits n (left - 1)) DoesNotFit None (name_fits r x (left - 1) (Digits n) f is)).0 in
    let head : IsHead (shape_of x) true n [] = subst (λ (s : Option Shape). IsHead s true n []) (sym is) (refl, refl, refl) in
    let positive : 0 < n = omega (arith, (sane_shape x (Digits n) is).0) in
    (f, (o, (positive, over), field_more r left (left - 1) b x IsEmpty (FieldContent true n) a (λ s z. (x, [], [], n, one_byte x s z, head, omega arith, All-nil IsDigitPair)) (one_less left (omega (arith, some)))))

pub name_ll : (r : Reading) (left depth x : ℕ) → 2 ≤ left → fault r name (left - 1) x ≡ None → shape_of x ≡ Some Ll → Judges r stage.Name left depth x (Ok (Within (stage.Digit 1 0) (left - 1)))
name_ll r left depth x some f is outer b e (o, le, a) =
    let enough = leb-true 2 (left - 1) (passed (nat_le 2 (left - 1)) DoesNotFit None (name_fits r x (left - 1) Ll f is)).0 in
    (f, (o, (enough, omega arith), field_more r left (left - 1) b x IsEmpty (Begins (digit 1 0)) a (λ s z. (x, [], one_byte x s z, ap count_digits (sym is), tt, refl)) (one_less left (omega (arith, some)))))

pub name_lll : (r : Reading) (left depth x : ℕ) → 2 ≤ left → fault r name (left - 1) x ≡ None → shape_of x ≡ Some Lll → Judges r stage.Name left depth x (Ok (Within (stage.Digit 2 0) (left - 1)))
name_lll r left depth x some f is outer b e (o, le, a) =
    let enough = leb-true 3 (left - 1) (passed (nat_le 3 (left - 1)) DoesNotFit None (name_fits r x (left - 1) Lll f is)).0 in
    (f, (o, (enough, refl), field_more r left (left - 1) b x IsEmpty (Begins (digit 2 0)) a (λ s z. (x, [], one_byte x s z, ap count_digits (sym is), tt, refl)) (one_less left (omega (arith, some)))))

pub name_tree : (r : Reading) (left depth x : ℕ) → 2 ≤ left → fault r name (left - 1) x ≡ None → shape_of x ≡ Some Tree → Judges r stage.Name left depth x (Ok (Within (stage.Container First) (left - 1)))
name_tree r left depth x some f is outer b e (o, le, a) =
    (f, (o, omega (arith, some), field_more r left (left - 1) b x IsEmpty (ContainerLength r First) a (λ s z. (x, [], one_byte x s z, is, record { is_tag = (omega arith, refl); is_kind = refl; deep = λ t. omega arith })) (one_less left (omega (arith, some)))))

-- a digit of a length
record Counting (more before left x number : ℕ) : Type 0 where
  is_one : (0xF0 ≤ x) × (x ≤ 0xF9)
  enough : count_fits more number left ≡ true

counting : (r : Reading) (more before left x number : ℕ) → fault r (digit more before) left x ≡ None → number ≡ 10 * before + (x - 0xF0) → Counting more before left x number
counting r more before left x number f is =
    let one = passed (is_length_digit x) LengthDigit _ f in
    let two = passed (count_fits more (10 * before + (x - 0xF0)) left) DoesNotFit None one.1 in
    record { is_one = length_digit x one.0; enough = ap (λ (n : ℕ). count_fits more n left) is ∙ two.0 }

number_more : (size : List ℕ) (before x number : ℕ) → counted 0 size ≡ before → number ≡ 10 * before + (x - 0xF0) → counted 0 (size ++ x ∷ []) ≡ number
number_more size before x number c is = counted_joined 0 size (x ∷ []) ∙ ap (λ (v : ℕ). 10 * v + (x - 0xF0)) c ∙ sym is

digit_more : (more before x number : ℕ) → (0xF0 ≤ x) × (x ≤ 0xF9) → number ≡ 10 * before + (x - 0xF0) → 0 < more → (s : List ℕ) → Begins (digit more before) s → Begins (digit (more - 1) number) (s ++ x ∷ [])
digit_more more before x number d is some s (bmp, size, w, total, are, c) =
    (bmp, size ++ x ∷ [], ap (λ (s : List ℕ). s ++ x ∷ []) w, (let sized : length (size ++ x ∷ []) + suc (more - 1) ≡ length size + suc more = omega (arith, length-append size (x ∷ []), some) in sized ∙ total), digits_joined size (x ∷ []) are (d.0, d.1, tt), number_more size before x number c is)

has_digits : (more before left x number : ℕ) → HasDigits more before left → Counting more before (left - 1) x number → number ≡ 10 * before + (x - 0xF0) → 0 < more → HasDigits (more - 1) number (left - 1)
has_digits zero before left x number h c is some = absurd (omega (arith, some))
has_digits (suc zero) before left x number h c is some =
    let le = leb-true (1 + 10 ^ 1 * number) (left - 1) c.enough in
    (omega (arith, le), omega (arith, h.1, is, c.is_one.1))
has_digits (suc (suc zero)) before left x number h c is some =
    let le = leb-true (2 + 10 ^ 2 * number) (left - 1) c.enough in
    (omega (arith, le), omega (arith, h.1, is, c.is_one.1))
has_digits (suc (suc (suc more))) before left x number h c is some = absurd h

digits_left : (more before left : ℕ) → HasDigits more before left → 0 < left
digits_left zero before left h = omega (arith, h.0)
digits_left (suc zero) before left h = omega (arith, h.0)
digits_left (suc (suc zero)) before left h = omega (arith, h.0)
digits_left (suc (suc (suc more))) before left h = absurd h

pub digit_within : (r : Reading) (more before number left depth x : ℕ) → fault r (digit more before) (left - 1) x ≡ None → number ≡ 10 * before + (x - 0xF0) → 0 < more →
    Judges r (stage.Digit more before) left depth x (Ok (Within (stage.Digit (more - 1) number) (left - 1)))
digit_within r more before number left depth x f is some outer b e (o, has, a) =
    let c = counting r more before (left - 1) x number f is in
    (f, (o, has_digits more before left x number has c is some, field_more r left (left - 1) b x _ _ a (digit_more more before x number c.is_one is some) (one_less left (digits_left more before left has))))

-- the last one
counted_head : (before x number : ℕ) → (0xF0 ≤ x) × (x ≤ 0xF9) → number ≡ 10 * before + (x - 0xF0) → (s : List ℕ) → Begins (digit 0 before) s → FieldContent false number (s ++ x ∷ [])
counted_head before x number d is s (bmp, size, w, total, are, c) =
    let counts : count_digits (shape_of bmp) ≡ suc (length size) = (let one : suc (length size) ≡ length size + 1 = omega arith in sym total ∙ sym one) in
    let sized : length (size ++ x ∷ []) ≡ suc (length size) = omega (arith, length-append size (x ∷ [])) in
    (bmp, size ++ x ∷ [], [], number, ap (λ (s : List ℕ). s ++ x ∷ []) w ∙ ap (λ (s : List ℕ). bmp ∷ s) (sym (append-nil (size ++ x ∷ []))), count_head (shape_of bmp) (length size) number (size ++ x ∷ []) counts (sized, digits_joined size (x ∷ []) are (d.0, d.1, tt), number_more size before x number c is), omega arith, tt)

pub digit_content : (r : Reading) (before number left depth x : ℕ) → fault r (digit 0 before) (left - 1) x ≡ None → number ≡ 10 * before + (x - 0xF0) → number ≢ 0 →
    Judges r (stage.Digit 0 before) left depth x (Ok (Within (stage.Content false number) (left - 1)))
digit_content r before number left depth x f is nonzero outer b e (o, has, a) =
    let c = counting r 0 before (left - 1) x number f is in
    (f, (o, (omega (arith, nonzero), fits_over number (left - 1) c.enough), field_more r left (left - 1) b x _ _ a (counted_head before x number c.is_one is) (one_less left (digits_left 0 before left has))))

pub digit_ends : (r : Reading) (before number left depth x : ℕ) → fault r (digit 0 before) (left - 1) x ≡ None → number ≡ 10 * before + (x - 0xF0) → number ≡ 0 →
    Judges r (stage.Digit 0 before) left depth x (Ok (Ends (left - 1)))
digit_ends r before number left depth x f is none outer b e (o, has, a) =
    let c = counting r 0 before (left - 1) x number f is in
    let over = fits_over number (left - 1) c.enough in
    let m = field_more r left (left - 1) b x _ (FieldContent false number) a (counted_head before x number c.is_one is) (one_less left (digits_left 0 before left has)) in
    (f, between_fields r (left - 1) outer (b ++ x ∷ []) o (λ one. over.2 (omega (arith, over.1, one, none))) (field_done r (left - 1) (b ++ x ∷ []) _ m (λ s h. content_done r false s (subst (λ (k : ℕ). FieldContent false k s) none h))))

-- the same, where the count is tested
pub last_content : (r : Reading) (more before number left depth x : ℕ) → more ≡ 0 → fault r (digit more before) (left - 1) x ≡ None → number ≡ 10 * before + (x - 0xF0) → number ≢ 0 →
    Judges r (stage.Digit more before) left depth x (Ok (Within (stage.Content false number) (left - 1)))
last_content r zero before number left depth x e = digit_content r before number left depth x
last_content r (suc more) before number left depth x e = absurd (omega (arith, e))

pub last_ends : (r : Reading) (more before number left depth x : ℕ) → more ≡ 0 → fault r (digit more before) (left - 1) x ≡ None → number ≡ 10 * before + (x - 0xF0) → number ≡ 0 →
    Judges r (stage.Digit more before) left depth x (Ok (Ends (left - 1)))
last_ends r zero before number left depth x e = digit_ends r before number left depth x
last_ends r (suc more) before number left depth x e = absurd (omega (arith, e))
