-- Which bytes may follow the beginning of a field.
use Rattle.std.proofs.Common.{◌≡◌, ◌≢◌, ℕ, ◌+◌, ◌-◌, ◌<◌, ◌≤◌, Bool, true, false, Option, Some, None, List, [], ◌∷◌, ◌++◌, length, refl, sym, ◌∙◌, ap, subst, append_assoc, arith, length-append, ◌⊎◌, suc, zero, inl, inr}
use Rattle.std.proofs.lemmas.List.{append-nil, append_cancel_left}
use Rattle.std.proofs.lemmas.Bool.{leb-true, leb-false, eqb-true, eqb-false, or_cases, or_parts, false≢true}
use Rattle.std.proofs.lemmas.List.Elements.{All-nil, All-cons, All-append}
use Rattle.zvt_bcd.specs.Digits.{AreDigits, IsDigitPair, is_digit_pair}
use Rattle.zvt_bcd.proofs.PairTests.{is_pair, is_pair_test}
use Rattle.zvt_grammar.specs.declared.why.Why.{Why}
use Rattle.zvt_grammar.specs.declared.why.Why.TheVariants.{DoesNotFit, NotDigit}
use Rattle.zvt_grammar.specs.Reading.{Reading}
use Rattle.zvt_grammar.specs.Tests.{check, fits}
use Rattle.zvt_tlv.specs.Judging.{avoids, first_tag}
use Rattle.zvt_tlv.specs.Judging as judging
use Rattle.zvt_grammar.specs.Beginnings.{Alive}
use Rattle.zvt_tlv.specs.Sized.{Sized, SizedIn, PositionSized}
use Rattle.zvt_tlv.proofs.Alive.{prefix_of, zeros, zeros_size, zeros_bytes, bytes_prefix, bytes_joined, remainder, says_of}
use Rattle.zvt_tlv.proofs.Room.{Says}
use Rattle.zvt_tlv.proofs.SizedLemmas.{NotLonger, position_unfinished, not_longer, not_longer_more, fit_sized}
use Rattle.zvt_field.specs.declared.shapes.Shape.{Shape}
use Rattle.zvt_field.specs.declared.shapes.Shape.TheVariants.{Tree}
use Rattle.zvt_field.specs.Shapes.{shape_of}
use Rattle.zvt_field.specs.Grammar.{Field, plain, tree, IsHead, IsContent, FieldList}
use Rattle.zvt_field.specs.Judging.{AliveIn, in_content, fault}
use Rattle.zvt_field.proofs.FieldLists.{head_prefix, not_single, filler, filling, filling_size, filled}

pub says_check : (b : Bool) (why : Why) (P : Type 0) → (b ≡ true → P) → (b ≡ false → P → ⊥) → Says (check b why None) P
says_check true why P passes fails = (λ e. passes refl, λ w e p. absurd (cc (e)))
says_check false why P passes fails = (λ e. absurd (cc (e)), λ w e p. fails refl p)

-- a container's content, alive in its level and in the fields
pub alive_container : (r : Reading) (bmp level : ℕ) (c : List ℕ) → shape_of bmp ≡ Some Tree → NotLonger r c → AliveIn r (suc level) (bmp ∷ c) → Alive (SizedIn r level) c
alive_container r bmp level c is longer h = by_list h.value h.spelled.0
  where
    by_list : (fs : List Field) → FieldList r fs ((bmp ∷ c) ++ h.rest) → Alive (SizedIn r level) c
    by_list [] p = absurd (omega (arith, ap length p))
    by_list (plain bmp' content ∷ fs) (one, after, whole, p, more) =
        let e : bmp ∷ (c ++ h.rest) ≡ bmp' ∷ ((p.size ++ content) ++ after) = whole ∙ ap (λ (s : List ℕ). s ++ after) p.whole in
        let names : bmp ≡ bmp' = cc (e) in
        absurd (subst (λ (o : Option Shape). IsHead o p.digits (length content) p.size) (ap shape_of (sym names) ∙ is) p.is_head)
    by_list (tree bmp' objects ∷ fs) (one, after, whole, p, more) =
        let e : bmp ∷ (c ++ h.rest) ≡ bmp' ∷ (p.one ++ after) = whole ∙ ap (λ (s : List ℕ). s ++ after) p.whole in
        let tails : c ++ h.rest ≡ p.one ++ after = cc (e) in
        let m = prefix_of c h.rest p.one after tails (longer objects p.one h.rest after p.sized tails) in
        let rest : h.rest ≡ m.0 ++ after = append_cancel_left c h.rest (m.0 ++ after) (tails ∙ ap (λ (s : List ℕ). s ++ after) m.1 ∙ append_assoc c m.0 after) in
        record {
          value = objects;
          rest = m.0;
          spelled = record {
            spelled = subst (Sized r objects) m.1 p.sized;
            left = length after;
            filled = omega (arith, h.spelled.1, length-append c h.rest, ap length rest, length-append m.0 after, length-append c m.0);
            apart = not_single r fs after more;
          };
        }

pub container_alive : (r : Reading) (bmp level : ℕ) (c : List ℕ) → shape_of bmp ≡ Some Tree → Alive (SizedIn r level) c → AliveIn r (suc level) (bmp ∷ c)
container_alive r bmp level c is h =
    let p = h.spelled in
    record {
      value = tree bmp h.value ∷ filler p.left;
      rest = h.rest ++ filling p.left;
      spelled = (
        (bmp ∷ (c ++ h.rest), filling p.left, ap (λ (s : List ℕ). bmp ∷ s) (sym (append_assoc c h.rest (filling p.left))), record { one = c ++ h.rest; whole = refl; is_tree = is; sized = p.spelled }, filled r p.left),
        omega (arith, length-append c (h.rest ++ filling p.left), length-append h.rest (filling p.left), filling_size p.left p.apart, p.filled, length-append c h.rest),
      );
    }

-- in a container: a byte's tests pass exactly where it leaves the bytes alive
pub fit_container : (r : Reading) (bmp level : ℕ) (os : List judging.Opener) (inside : List ℕ) (at : ℕ) (role : judging.Role) (left x : ℕ) → shape_of bmp ≡ Some Tree →
    PositionSized r level os inside at role left → x < 256 → AliveIn r (suc level) (bmp ∷ inside) →
    Says (judging.fault r at role left x) (AliveIn r (suc level) (bmp ∷ (inside ++ x ∷ [])))
fit_container r bmp level os inside at role left x is p lt a =
    let u = position_unfinished r level os inside at role left p in
    says_of (judging.fault r at role left x) (Alive (SizedIn r level) (inside ++ x ∷ [])) (AliveIn r (suc level) (bmp ∷ (inside ++ x ∷ [])))
    (container_alive r bmp level (inside ++ x ∷ []) is) (alive_container r bmp level (inside ++ x ∷ []) is (not_longer_more r inside x u))
    (fit_sized r level os inside at role left x p lt (alive_container r bmp level inside is (not_longer r inside u) a))

-- contents of a kind
content_prefix : (digits : Bool) (a b : List ℕ) → IsContent digits (a ++ b) → IsContent digits a
content_prefix false a b h = bytes_prefix a b h
content_prefix true [] b h = All-nil IsDigitPair
content_prefix true (x ∷ a) b h = All-cons IsDigitPair x a (h 0 0 (omega arith)) (content_prefix true a b (λ k d lt. h (suc k) d (omega arith)))

content_joined : (digits : Bool) (a b : List ℕ) → IsContent digits a → IsContent digits b → IsContent digits (a ++ b)
content_joined false a b p q = bytes_joined a b p q
content_joined true a b p q = All-append IsDigitPair a b p q

content_zeros : (digits : Bool) (n : ℕ) → IsContent digits (zeros n)
content_zeros false n = zeros_bytes n
content_zeros true zero = All-nil IsDigitPair
content_zeros true (suc n) = All-cons IsDigitPair 0 (zeros n) (omega arith, omega arith) (content_zeros true n)

-- a beginning of a content
pub record Content (digits : Bool) (n : ℕ) (head part : List ℕ) (room : ℕ) : Type 0 where
  pub over : ℕ
  pub sized : length head + (n + over) ≡ room
  pub apart : over ≢ 1
  pub is_content : IsContent digits part

pub content_alive : (r : Reading) (bmp n : ℕ) (digits : Bool) (size part : List ℕ) (room : ℕ) → IsHead (shape_of bmp) digits n size → length part ≤ n →
    Content digits n (bmp ∷ size) part room → AliveIn r room (bmp ∷ (size ++ part))
content_alive r bmp n digits size part room head short c =
    let s = zeros (n - length part) in
    let whole : length (part ++ s) ≡ n = omega (arith, length-append part s, zeros_size (n - length part)) in
    let same : bmp ∷ (size ++ ((part ++ s) ++ filling c.over)) ≡ (bmp ∷ (size ++ part)) ++ (s ++ filling c.over) = ap (λ (l : List ℕ). bmp ∷ l) (simp append_assoc) in
    let total : length (bmp ∷ (size ++ ((part ++ s) ++ filling c.over))) ≡ room = omega (arith, length-append size ((part ++ s) ++ filling c.over), length-append (part ++ s) (filling c.over), filling_size c.over c.apart, c.sized, whole) in
    record {
      value = plain bmp (part ++ s) ∷ filler c.over;
      rest = s ++ filling c.over;
      spelled = (
        (
          bmp ∷ (size ++ (part ++ s)),
          filling c.over,
          sym same ∙ ap (λ (l : List ℕ). bmp ∷ l) (sym (append_assoc size (part ++ s) (filling c.over))),
          record { digits = digits; size = size; whole = refl; is_head = subst (λ (m : ℕ). IsHead (shape_of bmp) digits m size) (sym whole) head; is_content = content_joined digits part s c.is_content (content_zeros digits (n - length part)) },
          filled r c.over,
        ),
        sym (ap length same) ∙ total,
      );
    }

pub tree_head : (o : Option Shape) (digits : Bool) (n : ℕ) (size : List ℕ) → IsHead o digits n size → o ≡ Some Tree → ⊥
tree_head o digits n size h e = subst (λ (p : Option Shape). IsHead p digits n size) e h

pub alive_content : (r : Reading) (bmp n : ℕ) (digits : Bool) (size part : List ℕ) (room : ℕ) → IsHead (shape_of bmp) digits n size → length part ≤ n →
    AliveIn r room (bmp ∷ (size ++ part)) → Content digits n (bmp ∷ size) part room
alive_content r bmp n digits size part room head short h = by_list h.value h.spelled.0
  where
    by_list : (fs : List Field) → FieldList r fs ((bmp ∷ (size ++ part)) ++ h.rest) → Content digits n (bmp ∷ size) part room
    by_list [] p = absurd (omega (arith, ap length p))
    by_list (tree bmp' objects ∷ fs) (one, after, whole, p, more) =
        let e : bmp ∷ ((size ++ part) ++ h.rest) ≡ bmp' ∷ (p.one ++ after) = whole ∙ ap (λ (s : List ℕ). s ++ after) p.whole in
        let names : bmp ≡ bmp' = cc (e) in
        absurd (tree_head (shape_of bmp) digits n size head (ap shape_of names ∙ p.is_tree))
    by_list (plain bmp' content ∷ fs) (one, after, whole, p, more) =
        let e : bmp ∷ (size ++ (part ++ h.rest)) ≡ bmp' ∷ (p.size ++ (content ++ after)) =
        ap (λ (s : List ℕ). bmp ∷ s) (sym (append_assoc size part h.rest)) ∙ whole ∙ ap (λ (s : List ℕ). s ++ after) p.whole ∙ ap (λ (s : List ℕ). bmp' ∷ s) (append_assoc p.size content after) in
        let names : bmp ≡ bmp' = cc (e) in
        let same = head_prefix (shape_of bmp') digits p.digits n (length content) size p.size (part ++ h.rest) (content ++ after)
        (subst (λ (m : ℕ). IsHead (shape_of m) digits n size) names head) p.is_head (cc (e)) in
        let m = prefix_of part h.rest content after same.rests (omega (arith, same.numbers)) in
        record {
          over = length after;
          sized = omega (arith, h.spelled.1, ap length e, length-append size (part ++ h.rest), length-append (size ++ part) h.rest, length-append size part, length-append part h.rest, ap length same.sizes, length-append p.size (content ++ after), length-append content after, same.numbers);
          apart = not_single r fs after more;
          is_content = content_prefix digits part m.0 (subst (IsContent digits) m.1 (subst (λ (d : Bool). IsContent d content) (sym same.kinds) p.is_content));
        }

fits_true : (n left : ℕ) → fits n left ≡ true → (left ≡ n) ⊎ (n + 2 ≤ left)
fits_true n left e = elim (or_cases _ _ e) [ inl h ↦ inl (eqb-true left n h) | inr h ↦ inr (leb-true (n + 2) left h) ]

fits_false : (n left over : ℕ) → fits n left ≡ false → left ≡ n + over → over ≢ 1 → ⊥
fits_false n left over e s ne =
    let no = eqb-false left n (or_parts _ _ e).0 in
    let less : left < n + 2 = leb-false (n + 2) left (or_parts _ _ e).1 in
    grind (arith, no, less, s, ne)

-- a content that has not begun
pub fit_size : (r : Reading) (bmp n : ℕ) (digits : Bool) (size : List ℕ) (room left : ℕ) → IsHead (shape_of bmp) digits n size → length size + suc left ≡ room →
    Says (check (fits n left) DoesNotFit None) (AliveIn r room (bmp ∷ size))
fit_size r bmp n digits size room left head e =
    says_of (check (fits n left) DoesNotFit None) (AliveIn r room (bmp ∷ (size ++ []))) (AliveIn r room (bmp ∷ size))
    (subst (λ (s : List ℕ). AliveIn r room (bmp ∷ s)) (append-nil size)) (subst (λ (s : List ℕ). AliveIn r room (bmp ∷ s)) (sym (append-nil size)))
    (says_check (fits n left) DoesNotFit _
    (λ t. let m = remainder left n (fits_true n left t) in content_alive r bmp n digits size [] room head (omega arith) (record { over = m.0; sized = omega (arith, m.1); apart = m.2; is_content = content_zeros digits 0 }))
    (λ t h. let c = alive_content r bmp n digits size [] room head (omega arith) h in fits_false n left c.over t (omega (arith, c.sized)) c.apart))

-- a byte of a content
last_digit : (part : List ℕ) (x : ℕ) → AreDigits (part ++ x ∷ []) → IsDigitPair x
last_digit [] x h = h 0 0 (omega arith)
last_digit (y ∷ part) x h = last_digit part x (λ k d lt. h (suc k) d (omega arith))

pub fit_content : (r : Reading) (bmp n : ℕ) (digits : Bool) (size part : List ℕ) (room left x : ℕ) → IsHead (shape_of bmp) digits n size → length part < n → x < 256 →
    AliveIn r room (bmp ∷ (size ++ part)) → Says (fault r (in_content digits) left x) (AliveIn r room (bmp ∷ (size ++ (part ++ x ∷ []))))
fit_content r bmp n digits size part room left x head short lt a = by_kind digits head (alive_content r bmp n digits size part room head (omega arith) a)
  where
    by_kind : (digits : Bool) → IsHead (shape_of bmp) digits n size → Content digits n (bmp ∷ size) part room → Says (fault r (in_content digits) left x) (AliveIn r room (bmp ∷ (size ++ (part ++ x ∷ []))))
    by_kind false head c = (
      λ e. content_alive r bmp n false size (part ++ x ∷ []) room head (omega (arith, length-append part (x ∷ []))) (record { over = c.over; sized = c.sized; apart = c.apart; is_content = content_joined false part (x ∷ []) c.is_content (lt, tt) }),
      λ w e p. absurd (cc (e)),
    )
    by_kind true head c = says_check (is_digit_pair x) NotDigit _
        (λ e. content_alive r bmp n true size (part ++ x ∷ []) room head (omega (arith, length-append part (x ∷ []))) (record { over = c.over; sized = c.sized; apart = c.apart; is_content = content_joined true part (x ∷ []) c.is_content (All-cons IsDigitPair x [] (is_pair x e) (All-nil IsDigitPair)) }))
        (λ e h. false≢true (sym e ∙ is_pair_test x (last_digit part x (alive_content r bmp n true size (part ++ x ∷ []) room head (omega (arith, length-append part (x ∷ []))) h).is_content)))
