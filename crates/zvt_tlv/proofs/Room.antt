-- How many bytes can follow the beginning of an object, and what a byte's tests say of that.
use Rattle.std.proofs.Common.{◌≡◌, ◌≢◌, ℕ, ◌+◌, ◌*◌, ◌<◌, ◌≤◌, ◌==◌, ◌&&◌, not, nat_le, Bool, true, false, cond, Option, Some, None, refl, sym, ◌∙◌, ap, subst, arith, ◌⊎◌, suc, inl, inr}
use Rattle.std.proofs.lemmas.Bool.{cond-true, cond-false, lt-ltb, le-ltb, le-leb, lt-leb, leb-true, leb-false, eqb-true, eqb-false, ne_eqb, cases_Bool, cases_lt, cases_eq, and_from, and_parts, and_cases, or_cases, or_parts, not-true, not-false}
use Rattle.zvt_grammar.specs.declared.why.Why.{Why}
use Rattle.zvt_grammar.specs.declared.why.Why.TheVariants.{NotShortest, DoesNotFit, LengthForm, TooDeep, TagTooLong}
use Rattle.zvt_grammar.specs.Reading.{Reading, shortest, padded, least}
use Rattle.zvt_tlv.specs.Grammar.{holds_objects, continues}
use Rattle.zvt_grammar.specs.Tests.{check, fits}
use Rattle.zvt_tlv.specs.Judging.{Next, byte, content, wrong, next, Role, first_tag, second_tag, third_tag, first_length, after_81, high_length, low_length, in_content, fault, avoids, content_fits, long_form}
use Rattle.zvt_tlv.proofs.NextByteLemmas.{next_first_again, next_first_once, next_first_deep, next_second_last, next_second_more, next_third_last, next_third_long, next_short, next_81, next_82, next_no_length, next_after_81, next_after_81_less, next_high, next_high_less, least_both}

-- in the shortest reading, a constructed object is not of that size
abbrev pub Apart : Reading → Bool → ℕ → ℕ → Type 0
Apart shortest true t n = t ≢ n
Apart shortest false t n = Unit {0}
Apart padded nests t n = Unit {0}

abbrev pub Nested : Bool → ℕ → ℕ → Type 0
Nested true t n = t ≢ n
Nested false t n = Unit {0}

-- a constructed object is at depth 5 at most
abbrev pub Shallow : ℕ → Bool → Type 0
Shallow d nests = nests ≡ true → d < 6

-- that many bytes can follow in the level, at that depth
abbrev pub Fits : Reading → ℕ → Next → ℕ → Type 0
Fits r d (byte first_tag) t = t ≢ 1
Fits r d (byte (second_tag nests)) t = (2 ≤ t) × Shallow d nests
Fits r d (byte (third_tag nests)) t = (2 ≤ t) × Apart r nests t 3 × Shallow d nests
Fits r d (byte (first_length nests)) t = (1 ≤ t) × Apart r nests t 2 × Shallow d nests
Fits r d (byte (after_81 nests)) t = (1 + least r 128 ≤ t) × Nested nests t 2 × Shallow d nests
Fits r d (byte (high_length nests)) t = (2 + least r 256 ≤ t) × Nested nests t 3 × Shallow d nests
Fits r d (byte (low_length nests high)) t = (1 + 256 * high ≤ t) × Nested nests t 2 × Shallow d nests
Fits r d (byte in_content) t = ⊥
Fits r d (content nests n) t = ((t ≡ n) ⊎ (n + 2 ≤ t)) × Nested nests n 1 × Shallow d nests
Fits r d (wrong w) t = ⊥

apart_suc : (r : Reading) (nests : Bool) (t n : ℕ) → Apart r nests t n → Apart r nests (suc t) (suc n)
apart_suc shortest true t n h = λ e. h (omega arith)
apart_suc shortest false t n h = tt
apart_suc padded nests t n h = tt

apart_back : (r : Reading) (nests : Bool) (t n : ℕ) → Apart r nests (suc t) (suc n) → Apart r nests t n
apart_back shortest true t n h = λ e. h (omega arith)
apart_back shortest false t n h = tt
apart_back padded nests t n h = tt

apart_of : (r : Reading) (nests : Bool) (t n : ℕ) → t ≢ n → Apart r nests t n
apart_of shortest true t n h = h
apart_of shortest false t n h = tt
apart_of padded nests t n h = tt

nested_of : (nests : Bool) (t n : ℕ) → t ≢ n → Nested nests t n
nested_of true t n h = h
nested_of false t n h = tt

nested_suc : (nests : Bool) (t n : ℕ) → Nested nests t n → Nested nests (suc t) (suc n)
nested_suc true t n h = λ e. h (omega arith)
nested_suc false t n h = tt

nested_back : (nests : Bool) (t n : ℕ) → Nested nests (suc t) (suc n) → Nested nests t n
nested_back true t n h = λ e. h (omega arith)
nested_back false t n h = tt

-- where one byte of content doesn't fit, one byte doesn't follow
not_one : (nests : Bool) (n t : ℕ) → ((t ≡ n) ⊎ (n + 2 ≤ t)) → Nested nests n 1 → Nested nests (suc t) 2
not_one true n t f h = λ e. h (omega arith)
not_one false n t f h = tt

short_apart : (r : Reading) (nests : Bool) (n t : ℕ) → ((t ≡ n) ⊎ (n + 2 ≤ t)) → Nested nests n 1 → Apart r nests (suc t) 2
short_apart shortest true n t f h = λ e. h (omega arith)
short_apart shortest false n t f h = tt
short_apart padded nests n t f h = tt

long_apart : (r : Reading) (nests : Bool) (t : ℕ) → 1 + least r 128 ≤ t → Apart r nests (suc t) 2
long_apart shortest true t h = λ e. absurd (omega arith)
long_apart shortest false t h = tt
long_apart padded nests t h = tt

longer_apart : (r : Reading) (nests : Bool) (t : ℕ) → 2 + least r 256 ≤ t → Apart r nests (suc t) 2
longer_apart shortest true t h = λ e. absurd (omega arith)
longer_apart shortest false t h = tt
longer_apart padded nests t h = tt

-- a byte more
by_next : (r : Reading) (d : ℕ) (role : Role) (x t : ℕ) (nx : Next) → next r d role x ≡ nx → Fits r d (next r d role x) t → Fits r d nx t
by_next r d role x t nx e h = subst (λ (n : Next). Fits r d n t) e h

pub fits_before : (r : Reading) (d : ℕ) (role : Role) (x t : ℕ) → x < 256 → Fits r d (next r d role x) t → Fits r d (byte role) (suc t)
fits_before r d first_tag x t lt h = by_depth (cases_Bool (holds_objects x)) (cases_lt d 6)
  where
    by_kind : (holds_objects x ≡ true → d < 6) → ((continues x ≡ true) ⊎ (continues x ≡ false)) → suc t ≢ 1
    by_kind deep (inl more) = let f = (by_next r d first_tag x t (byte (second_tag (holds_objects x))) (next_first_again r d x deep more) h).0 in omega arith
    by_kind deep (inr last) = let f = (by_next r d first_tag x t (byte (first_length (holds_objects x))) (next_first_once r d x deep last) h).0 in omega arith

    by_depth : ((holds_objects x ≡ true) ⊎ (holds_objects x ≡ false)) → ((d < 6) ⊎ (6 ≤ d)) → suc t ≢ 1
    by_depth (inl is) (inl less) = by_kind (λ e. less) (cases_Bool (continues x))
    by_depth (inl is) (inr deep) = absurd (by_next r d first_tag x t (wrong TooDeep) (next_first_deep r d x is deep) h)
    by_depth (inr plain) _ = by_kind (λ e. cc) (cases_Bool (continues x))
fits_before r d (second_tag nests) x t lt h =
    elim (cases_lt x 128) [
      | inl less ↦ (let f = by_next r d (second_tag nests) x t (byte (first_length nests)) (next_second_last r d nests x less) h in (omega (arith, f.0), f.2))
      | inr more ↦ (let f = by_next r d (second_tag nests) x t (byte (third_tag nests)) (next_second_more r d nests x more) h in (omega (arith, f.0), f.2))
    ]
fits_before r d (third_tag nests) x t lt h =
    elim (cases_lt x 128) [
      | inl less ↦ (let f = by_next r d (third_tag nests) x t (byte (first_length nests)) (next_third_last r d nests x less) h in (omega (arith, f.0), apart_suc r nests t 2 f.1, f.2))
      | inr more ↦ absurd (by_next r d (third_tag nests) x t (wrong TagTooLong) (next_third_long r d nests x more) h)
    ]
fits_before r d (first_length nests) x t lt h = by_value (cases_lt x 128) (cases_eq x 0x81) (cases_eq x 0x82)
  where
    by_value : ((x < 128) ⊎ (128 ≤ x)) → ((x ≡ 0x81) ⊎ (x ≢ 0x81)) → ((x ≡ 0x82) ⊎ (x ≢ 0x82)) → (1 ≤ suc t) × Apart r nests (suc t) 2 × Shallow d nests
    by_value (inl less) _ _ = let f = by_next r d (first_length nests) x t (content nests x) (next_short r d nests x less) h in (omega arith, short_apart r nests x t f.0 f.1, f.2)
    by_value (inr ge) (inl e) _ = let f = by_next r d (first_length nests) x t (byte (after_81 nests)) (next_81 r d nests x e) h in (omega arith, long_apart r nests t f.0, f.2)
    by_value (inr ge) (inr other) (inl e) = let f = by_next r d (first_length nests) x t (byte (high_length nests)) (next_82 r d nests x e) h in (omega arith, longer_apart r nests t f.0, f.2)
    by_value (inr ge) (inr other) (inr nor) = absurd (by_next r d (first_length nests) x t (wrong LengthForm) (next_no_length r d nests x ge other nor) h)
fits_before r d (after_81 nests) x t lt h =
    elim (cases_lt x (least r 128)) [
      | inl less ↦ absurd (by_next r d (after_81 nests) x t (wrong NotShortest) (next_after_81_less r d nests x less) h)
      | inr more ↦ (let f = by_next r d (after_81 nests) x t (content nests x) (next_after_81 r d nests x more) h in (omega (arith, f.0), not_one nests x t f.0 f.1, f.2))
    ]
fits_before r d (high_length nests) x t lt h =
    elim (cases_lt x (least r 1)) [
      | inl less ↦ absurd (by_next r d (high_length nests) x t (wrong NotShortest) (next_high_less r d nests x less) h)
      | inr more ↦ (let f = by_next r d (high_length nests) x t (byte (low_length nests x)) (next_high r d nests x more) h in (omega (arith, f.0, least_both r x 0 more), nested_suc nests t 2 f.1, f.2))
    ]
fits_before r d (low_length nests high) x t lt h = (omega (arith, h.0), not_one nests (256 * high + x) t h.0 h.1, h.2)
fits_before r d in_content x t lt h = h

-- a byte after which the rest fits
pub record Choice (r : Reading) (d : ℕ) (role : Role) (t : ℕ) : Type 0 where
  pub x : ℕ
  pub is_byte : x < 256
  pub nx : Next
  pub leads : next r d role x ≡ nx
  pub fits : Fits r d nx t

pub fitting_byte : (r : Reading) (d : ℕ) (role : Role) (t : ℕ) → Fits r d (byte role) (suc t) → Choice r d role t
fitting_byte r d first_tag t f = record {
  x = 7;
  is_byte = omega arith;
  nx = byte (first_length false);
  leads = next_first_once r d 7 (λ e. absurd (cc (e))) refl;
  fits = (omega arith, plain r t, λ e. absurd (cc (e)));
}
  where
    plain : (r : Reading) (t : ℕ) → Apart r false t 2
    plain shortest t = tt
    plain padded t = tt
fitting_byte r d (second_tag nests) t f =
    elim (cases_eq t 2) [
      | inl two ↦ record { x = 128; is_byte = omega arith; nx = byte (third_tag nests); leads = next_second_more r d nests 128 (omega arith); fits = (omega arith, apart_of r nests t 3 (λ e. omega arith), f.1) }
      | inr other ↦ record { x = 0; is_byte = omega arith; nx = byte (first_length nests); leads = next_second_last r d nests 0 (omega arith); fits = (omega (arith, f.0), apart_of r nests t 2 other, f.1) }
    ]
fitting_byte r d (third_tag nests) t f = record {
  x = 0;
  is_byte = omega arith;
  nx = byte (first_length nests);
  leads = next_third_last r d nests 0 (omega arith);
  fits = (omega (arith, f.0), apart_back r nests t 2 f.1, f.2);
}
fitting_byte r d (first_length nests) t f = by_size r nests f.2 f.1 (cases_eq t 1)
  where
    by_size : (r : Reading) (nests : Bool) → Shallow d nests → Apart r nests (suc t) 2 → ((t ≡ 1) ⊎ (t ≢ 1)) → Choice r d (first_length nests) t
    by_size shortest true deep a (inl one) = absurd (a (omega arith))
    by_size padded true deep a (inl one) = record { x = 0x81; is_byte = omega arith; nx = byte (after_81 true); leads = next_81 padded d true 0x81 refl; fits = (omega arith, λ e. omega arith, deep) }
    by_size r false deep a (inl one) = record { x = 1; is_byte = omega arith; nx = content false 1; leads = next_short r d false 1 (omega arith); fits = (inl one, tt, deep) }
    by_size r nests deep a (inr other) = record { x = 0; is_byte = omega arith; nx = content nests 0; leads = next_short r d nests 0 (omega arith); fits = (sized, nested_of nests 0 1 (λ e. omega arith), deep) }
      where
        sized : (t ≡ 0) ⊎ (0 + 2 ≤ t)
        sized = elim (cases_eq t 0) [ inl e ↦ inl e | inr e ↦ inr (omega arith) ]
fitting_byte r d (after_81 nests) t f = by_size (cases_eq t (least r 128 + 1))
  where
    small : (r : Reading) → least r 128 + 1 < 256
    small shortest = omega arith
    small padded = omega arith

    even : (r : Reading) → least r 128 ≢ 1
    even shortest = λ e. omega arith
    even padded = λ e. omega arith

    by_size : ((t ≡ least r 128 + 1) ⊎ (t ≢ least r 128 + 1)) → Choice r d (after_81 nests) t
    by_size (inl e) = record {
      x = least r 128 + 1;
      is_byte = small r;
      nx = content nests (least r 128 + 1);
      leads = next_after_81 r d nests (least r 128 + 1) (omega arith);
      fits = (inl e, nested nests (least r 128 + 1) e f.1, f.2);
    }
      where
        nested : (nests : Bool) (n : ℕ) → t ≡ n → Nested nests (suc t) 2 → Nested nests n 1
        nested true n e h = λ one. h (omega arith)
        nested false n e h = tt
    by_size (inr other) = record {
      x = least r 128;
      is_byte = omega (arith, small r);
      nx = content nests (least r 128);
      leads = next_after_81 r d nests (least r 128) (omega arith);
      fits = (sized, nested_of nests (least r 128) 1 (even r), f.2);
    }
      where
        sized : (t ≡ least r 128) ⊎ (least r 128 + 2 ≤ t)
        sized = elim (cases_eq t (least r 128)) [ inl e ↦ inl e | inr e ↦ inr (omega (arith, f.0)) ]
fitting_byte r d (high_length nests) t f = record {
  x = least r 1;
  is_byte = small r;
  nx = byte (low_length nests (least r 1));
  leads = next_high r d nests (least r 1) (omega arith);
  fits = (enough r f.0, nested_back nests t 2 f.1, f.2);
}
  where
    small : (r : Reading) → least r 1 < 256
    small shortest = omega arith
    small padded = omega arith

    enough : (r : Reading) → 2 + least r 256 ≤ suc t → 1 + 256 * least r 1 ≤ t
    enough shortest h = omega arith
    enough padded h = omega arith
fitting_byte r d (low_length nests high) t f = by_size (cases_eq t (256 * high + 1))
  where
    by_size : ((t ≡ 256 * high + 1) ⊎ (t ≢ 256 * high + 1)) → Choice r d (low_length nests high) t
    by_size (inl e) = record { x = 1; is_byte = omega arith; nx = content nests (256 * high + 1); leads = refl; fits = (inl e, nested nests (256 * high + 1) e f.1, f.2) }
      where
        nested : (nests : Bool) (n : ℕ) → t ≡ n → Nested nests (suc t) 2 → Nested nests n 1
        nested true n e h = λ one. h (omega arith)
        nested false n e h = tt
    by_size (inr other) = record { x = 0; is_byte = omega arith; nx = content nests (256 * high + 0); leads = refl; fits = (sized, nested_of nests (256 * high + 0) 1 (λ e. omega arith), f.2) }
      where
        sized : (t ≡ 256 * high + 0) ⊎ (256 * high + 0 + 2 ≤ t)
        sized = elim (cases_eq t (256 * high)) [ inl e ↦ inl (omega arith) | inr e ↦ inr (omega (arith, f.0)) ]
fitting_byte r d in_content t f = absurd f

-- a byte's tests pass exactly where the rest fits
abbrev pub Says : Option Why → Type 0 → Type 0
Says o P = (o ≡ None → P) × ((w : Why) → o ≡ Some w → P → ⊥)

says_check : (b : Bool) (why : Why) (P : Type 0) → (b ≡ true → P) → (b ≡ false → P → ⊥) → Says (check b why None) P
says_check true why P passes fails = (λ e. passes refl, λ w e p. absurd (cc (e)))
says_check false why P passes fails = (λ e. absurd (cc (e)), λ w e p. fails refl p)

says_some : (why : Why) (P : Type 0) → (P → ⊥) → Says (Some why) P
says_some why P fails = (λ e. absurd (cc (e)), λ w e p. fails p)

says_at : (r : Reading) (d : ℕ) (role : Role) (left x : ℕ) (o : Option Why) (nx : Next) → fault r d role left x ≡ o → next r d role x ≡ nx →
    Says o (Fits r d nx left) → Says (fault r d role left x) (Fits r d (next r d role x) left)
says_at r d role left x o nx e n says = (
  λ (is : fault r d role left x ≡ None). subst (λ (m : Next). Fits r d m left) (sym n) (says.0 (sym e ∙ is)),
  λ w is p. says.1 w (sym e ∙ is) (subst (λ (m : Next). Fits r d m left) n p),
)

avoids_true : (r : Reading) (nests : Bool) (left n : ℕ) → avoids r nests left n ≡ true → Apart r nests left n
avoids_true shortest true left n e = eqb-false left n (not-true _ e)
avoids_true shortest false left n e = tt
avoids_true padded nests left n e = tt

avoids_false : (r : Reading) (nests : Bool) (left n : ℕ) → avoids r nests left n ≡ false → Apart r nests left n → ⊥
avoids_false shortest true left n e h = h (eqb-true left n (not-false _ e))
avoids_false shortest false left n e h = cc (e)
avoids_false padded nests left n e h = cc (e)

fits_true : (n left : ℕ) → fits n left ≡ true → (left ≡ n) ⊎ (n + 2 ≤ left)
fits_true n left e = elim (or_cases _ _ e) [ inl h ↦ inl (eqb-true left n h) | inr h ↦ inr (leb-true (n + 2) left h) ]

fits_false : (n left : ℕ) → fits n left ≡ false → ((left ≡ n) ⊎ (n + 2 ≤ left)) → ⊥
fits_false n left e (inl h) = eqb-false left n (or_parts _ _ e).0 h
fits_false n left e (inr h) =
    let wrong = or_parts (left == n) (nat_le (n + 2) left) e in
    let less : left < n + 2 = leb-false (n + 2) left wrong.1 in omega arith

one_true : (nests : Bool) (n m : ℕ) → not (nests && (n == m)) ≡ true → Nested nests n m
one_true true n m e = eqb-false n m (not-true _ e)
one_true false n m e = tt

one_false : (nests : Bool) (n m : ℕ) → not (nests && (n == m)) ≡ false → Nested nests n m → ⊥
one_false true n m e h = h (eqb-true n m (not-false _ e))
one_false false n m e h = cc (e)

says_content : (r : Reading) (d : ℕ) (nests : Bool) (n left : ℕ) → Shallow d nests → Says (check (content_fits nests n left) DoesNotFit None) (Fits r d (content nests n) left)
says_content r d nests n left deep = says_check (content_fits nests n left) DoesNotFit _
    (λ e. let both = and_parts _ _ e in (fits_true n left both.0, one_true nests n 1 both.1, deep))
    (λ e p. elim (and_cases _ _ e) [ inl h ↦ fits_false n left h p.0 | inr h ↦ one_false nests n 1 h p.1 ])

-- where the tests hold of the bytes before it, a byte's tests pass exactly where the rest fits after it
pub says : (r : Reading) (d : ℕ) (role : Role) (left x : ℕ) → x < 256 → Fits r d (byte role) (suc left) →
    Says (fault r d role left x) (Fits r d (next r d role x) left)
says r d first_tag left x lt f = by_depth (cases_Bool (holds_objects x)) (cases_lt d 6)
  where
    shallow : (d : ℕ) (b : Bool) → (b ≡ true → d < 6) → (b && nat_le 6 d) ≡ false
    shallow d true h = lt-leb 6 d (h refl)
    shallow d false h = refl

    by_kind : (holds_objects x ≡ true → d < 6) → ((continues x ≡ true) ⊎ (continues x ≡ false)) → Says (fault r d first_tag left x) (Fits r d (next r d first_tag x) left)
    by_kind deep (inl more) = says_at r d first_tag left x (check (nat_le 2 left) DoesNotFit None) (byte (second_tag (holds_objects x)))
        (ap (λ (b : Bool). check (not b) TooDeep (check (cond (continues x) (nat_le 2 left) (avoids r (holds_objects x) left 2)) DoesNotFit None)) (shallow d (holds_objects x) deep)
        ∙ ap (λ (b : Bool). check (cond b (nat_le 2 left) (avoids r (holds_objects x) left 2)) DoesNotFit None) more)
        (next_first_again r d x deep more)
        (says_check (nat_le 2 left) DoesNotFit _ (λ e. (leb-true 2 left e, deep)) (λ e p. let less = leb-false 2 left e in let enough = p.0 in omega arith))
    by_kind deep (inr last) = says_at r d first_tag left x (check (avoids r (holds_objects x) left 2) DoesNotFit None) (byte (first_length (holds_objects x)))
        (ap (λ (b : Bool). check (not b) TooDeep (check (cond (continues x) (nat_le 2 left) (avoids r (holds_objects x) left 2)) DoesNotFit None)) (shallow d (holds_objects x) deep)
        ∙ ap (λ (b : Bool). check (cond b (nat_le 2 left) (avoids r (holds_objects x) left 2)) DoesNotFit None) last)
        (next_first_once r d x deep last)
        (says_check (avoids r (holds_objects x) left 2) DoesNotFit _ (λ e. (omega arith, avoids_true r (holds_objects x) left 2 e, deep)) (λ e p. avoids_false r (holds_objects x) left 2 e p.1))

    by_depth : ((holds_objects x ≡ true) ⊎ (holds_objects x ≡ false)) → ((d < 6) ⊎ (6 ≤ d)) → Says (fault r d first_tag left x) (Fits r d (next r d first_tag x) left)
    by_depth (inl is) (inl less) = by_kind (λ e. less) (cases_Bool (continues x))
    by_depth (inl is) (inr deep) = says_at r d first_tag left x (Some TooDeep) (wrong TooDeep)
        (ap (λ (b : Bool). check (not b) TooDeep (check (cond (continues x) (nat_le 2 left) (avoids r (holds_objects x) left 2)) DoesNotFit None)) (and_from _ _ is (le-leb 6 d deep)))
        (next_first_deep r d x is deep) (says_some TooDeep ⊥ (λ p. p))
    by_depth (inr plain) _ = by_kind (λ e. cc) (cases_Bool (continues x))
says r d (second_tag nests) left x lt f =
    elim (cases_lt x 128) [
      | inl less ↦ says_at r d (second_tag nests) left x (check (avoids r nests left 2) DoesNotFit None) (byte (first_length nests))
          (ap (λ (b : Bool). check (cond b (avoids r nests left 2) (nat_le 2 left && avoids r nests left 3)) DoesNotFit None) (lt-ltb x 128 less)) (next_second_last r d nests x less)
          (says_check (avoids r nests left 2) DoesNotFit _ (λ e. (omega (arith, f.0), avoids_true r nests left 2 e, f.1)) (λ e p. avoids_false r nests left 2 e p.1))
      | inr more ↦ says_at r d (second_tag nests) left x (check (nat_le 2 left && avoids r nests left 3) DoesNotFit None) (byte (third_tag nests))
          (ap (λ (b : Bool). check (cond b (avoids r nests left 2) (nat_le 2 left && avoids r nests left 3)) DoesNotFit None) (le-ltb x 128 more)) (next_second_more r d nests x more)
          (says_check (nat_le 2 left && avoids r nests left 3) DoesNotFit _
          (λ e. let both = and_parts _ _ e in (leb-true 2 left both.0, avoids_true r nests left 3 both.1, f.1))
          (λ e p. elim (and_cases _ _ e) [ inl h ↦ (let less = leb-false 2 left h in let enough = p.0 in omega arith) | inr h ↦ avoids_false r nests left 3 h p.1 ]))
    ]
says r d (third_tag nests) left x lt f =
    elim (cases_lt x 128) [
      | inl less ↦ says_at r d (third_tag nests) left x None (byte (first_length nests))
          (ap (λ (b : Bool). check b TagTooLong None) (lt-ltb x 128 less)) (next_third_last r d nests x less)
          (λ e. (omega (arith, f.0), apart_back r nests left 2 f.1, f.2), λ w e p. cc (e))
      | inr more ↦ says_at r d (third_tag nests) left x (Some TagTooLong) (wrong TagTooLong)
          (ap (λ (b : Bool). check b TagTooLong None) (le-ltb x 128 more)) (next_third_long r d nests x more) (says_some TagTooLong ⊥ (λ p. p))
    ]
says r d (first_length nests) left x lt f = by_value (cases_lt x 128) (cases_eq x 0x81) (cases_eq x 0x82)
  where
    form_81 : (r : Reading) → Says (long_form r nests left 128 1) (Fits r d (byte (after_81 nests)) left)
    form_81 shortest = says_check (nat_le (1 + 128) left) NotShortest _
        (λ e. let enough = leb-true (1 + 128) left e in (omega arith, nested_of nests left 2 (λ e. omega arith), f.2)) (λ e p. let less = leb-false (1 + 128) left e in omega (arith, p.0))
    form_81 padded = says_check (nat_le 1 left && not (nests && (left == 1 + 1))) DoesNotFit _
        (λ e. let both = and_parts _ _ e in (leb-true 1 left both.0, one_true nests left 2 both.1, f.2))
        (λ e p. elim (and_cases _ _ e) [ inl h ↦ (let less = leb-false 1 left h in let enough = p.0 in omega arith) | inr h ↦ one_false nests left 2 h p.1 ])

    form_82 : (r : Reading) → Says (long_form r nests left 256 2) (Fits r d (byte (high_length nests)) left)
    form_82 shortest = says_check (nat_le (2 + 256) left) NotShortest _
        (λ e. let enough = leb-true (2 + 256) left e in (omega arith, nested_of nests left 3 (λ e. omega arith), f.2)) (λ e p. let less = leb-false (2 + 256) left e in omega (arith, p.0))
    form_82 padded = says_check (nat_le 2 left && not (nests && (left == 2 + 1))) DoesNotFit _
        (λ e. let both = and_parts _ _ e in (leb-true 2 left both.0, one_true nests left 3 both.1, f.2))
        (λ e p. elim (and_cases _ _ e) [ inl h ↦ (let less = leb-false 2 left h in let enough = p.0 in omega arith) | inr h ↦ one_false nests left 3 h p.1 ])

    by_value : ((x < 128) ⊎ (128 ≤ x)) → ((x ≡ 0x81) ⊎ (x ≢ 0x81)) → ((x ≡ 0x82) ⊎ (x ≢ 0x82)) → Says (fault r d (first_length nests) left x) (Fits r d (next r d (first_length nests) x) left)
    by_value (inl less) _ _ = says_at r d (first_length nests) left x (check (content_fits nests x left) DoesNotFit None) (content nests x)
        (cond-true _ _ _ (lt-ltb x 128 less)) (next_short r d nests x less) (says_content r d nests x left f.2)
    by_value (inr ge) (inl e) _ = says_at r d (first_length nests) left x (long_form r nests left 128 1) (byte (after_81 nests))
        (rw e refl) (next_81 r d nests x e) (form_81 r)
    by_value (inr ge) (inr other) (inl e) = says_at r d (first_length nests) left x (long_form r nests left 256 2) (byte (high_length nests))
        (rw e refl) (next_82 r d nests x e) (form_82 r)
    by_value (inr ge) (inr other) (inr nor) = says_at r d (first_length nests) left x (Some LengthForm) (wrong LengthForm)
        (cond-false _ _ _ (le-ltb x 128 ge) ∙ cond-false _ _ _ (ne_eqb x 0x81 other) ∙ cond-false _ _ _ (ne_eqb x 0x82 nor)) (next_no_length r d nests x ge other nor) (says_some LengthForm ⊥ (λ p. p))
says r d (after_81 nests) left x lt f =
    elim (cases_lt x (least r 128)) [
      | inl less ↦ says_at r d (after_81 nests) left x (Some NotShortest) (wrong NotShortest)
          (ap (λ (b : Bool). check b NotShortest (check (content_fits nests x left) DoesNotFit None)) (lt-leb (least r 128) x less)) (next_after_81_less r d nests x less) (says_some NotShortest ⊥ (λ p. p))
      | inr more ↦ says_at r d (after_81 nests) left x (check (content_fits nests x left) DoesNotFit None) (content nests x)
          (ap (λ (b : Bool). check b NotShortest (check (content_fits nests x left) DoesNotFit None)) (le-leb (least r 128) x more)) (next_after_81 r d nests x more) (says_content r d nests x left f.2)
    ]
says r d (high_length nests) left x lt f =
    elim (cases_lt x (least r 1)) [
      | inl less ↦ says_at r d (high_length nests) left x (Some NotShortest) (wrong NotShortest)
          (ap (λ (b : Bool). check b NotShortest (check (nat_le (1 + 256 * x) left) DoesNotFit None)) (lt-leb (least r 1) x less)) (next_high_less r d nests x less) (says_some NotShortest ⊥ (λ p. p))
      | inr more ↦ says_at r d (high_length nests) left x (check (nat_le (1 + 256 * x) left) DoesNotFit None) (byte (low_length nests x))
          (ap (λ (b : Bool). check b NotShortest (check (nat_le (1 + 256 * x) left) DoesNotFit None)) (le-leb (least r 1) x more)) (next_high r d nests x more)
          (says_check (nat_le (1 + 256 * x) left) DoesNotFit _ (λ e. (leb-true (1 + 256 * x) left e, nested_back nests left 2 f.1, f.2)) (λ e p. let less = leb-false (1 + 256 * x) left e in omega (arith, p.0)))
    ]
says r d (low_length nests high) left x lt f = says_content r d nests (256 * high + x) left f.2
says r d in_content left x lt f = absurd f
