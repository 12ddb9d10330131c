-- Facts on spellings of fields: lists join and part, and each size but 1 is filled.
use Rattle.std.proofs.Common.{◌≡◌, ◌≢◌, ℕ, ◌+◌, false, List, [], ◌∷◌, ◌++◌, length, refl, sym, ◌∙◌, ap, subst, append_assoc, arith, length-append, suc, zero}
use Rattle.zvt_grammar.specs.Reading.{Reading}
use Rattle.zvt_field.specs.Shapes.{shape_of}
use Rattle.zvt_field.specs.Grammar.{Field, plain, FieldOf, FieldList}
use Rattle.zvt_field.specs.Judging.{AliveIn}
pub use Rattle.zvt_field.specs.UniqueDecoding.{IsSane, sane, SameHead, head_prefix, sized_prefix, field_prefix, sized_size, field_size, not_single, one_list}

pub list_joined : (r : Reading) (fs gs : List Field) (a b : List ℕ) → FieldList r fs a → FieldList r gs b → FieldList r (fs ++ gs) (a ++ b)
list_joined r [] gs a b p q = let e : b ≡ a ++ b = rw p refl in subst (FieldList r gs) e q
list_joined r (f ∷ fs) gs a b (one, after, whole, p, more) q =
    (one, after ++ b, ap (λ (s : List ℕ). s ++ b) whole ∙ append_assoc one after b, p, list_joined r fs gs after b more q)

-- what follows the fields that come first is fields
pub after_fields : (r : Reading) (fs gs : List Field) (a s : List ℕ) → FieldList r fs a → FieldList r gs (a ++ s) → (hs : List Field) × FieldList r hs s
after_fields r [] gs a s p q = (gs, let e : a ++ s ≡ s = rw p refl in subst (FieldList r gs) e q)
after_fields r (f ∷ fs) [] a s (one, after, whole, p, more) q =
    absurd (omega (arith, ap length q, length-append a s, ap length whole, length-append one after, field_size r f one p))
after_fields r (f ∷ fs) (g ∷ gs) a s (one, after, whole, p, more) (one', after', whole', p', more') =
    let e = field_prefix r f g one one' (after ++ s) after' p p' (sym (append_assoc one after s) ∙ ap (λ (v : List ℕ). v ++ s) (sym whole) ∙ whole') in
    after_fields r fs gs after s more (subst (FieldList r gs) (sym e.2) more')

-- fields of a size: names of two bytes, the last of three
abbrev pub filler : ℕ → List Field
filler zero = []
filler (suc zero) = []
filler (suc (suc zero)) = plain 0x27 (0 ∷ []) ∷ []
filler (suc (suc (suc zero))) = plain 0x0E (0 ∷ 0 ∷ []) ∷ []
filler (suc (suc (suc (suc n)))) = plain 0x27 (0 ∷ []) ∷ filler (suc (suc n))

abbrev pub filling : ℕ → List ℕ
filling zero = []
filling (suc zero) = []
filling (suc (suc zero)) = 0x27 ∷ 0 ∷ []
filling (suc (suc (suc zero))) = 0x0E ∷ 0 ∷ 0 ∷ []
filling (suc (suc (suc (suc n)))) = 0x27 ∷ 0 ∷ filling (suc (suc n))

pub filling_size : (n : ℕ) → n ≢ 1 → length (filling n) ≡ n
filling_size zero ne = refl
filling_size (suc zero) ne = absurd (ne refl)
filling_size (suc (suc zero)) ne = refl
filling_size (suc (suc (suc zero))) ne = refl
filling_size (suc (suc (suc (suc n)))) ne = omega (arith, filling_size (suc (suc n)) (omega arith))

small_field : (r : Reading) → FieldOf r (plain 0x27 (0 ∷ [])) (0x27 ∷ 0 ∷ [])
unfolding shape_of
small_field r = record { digits = false; size = []; whole = refl; is_head = (refl, refl, refl); is_content = (omega arith, tt) }

other_field : (r : Reading) → FieldOf r (plain 0x0E (0 ∷ 0 ∷ [])) (0x0E ∷ 0 ∷ 0 ∷ [])
unfolding shape_of
other_field r = record { digits = false; size = []; whole = refl; is_head = (refl, refl, refl); is_content = (omega arith, (omega arith, tt)) }

pub filled : (r : Reading) (n : ℕ) → FieldList r (filler n) (filling n)
filled r zero = refl
filled r (suc zero) = refl
filled r (suc (suc zero)) = (0x27 ∷ 0 ∷ [], [], refl, small_field r, refl)
filled r (suc (suc (suc zero))) = (0x0E ∷ 0 ∷ 0 ∷ [], [], refl, other_field r, refl)
filled r (suc (suc (suc (suc n)))) = (0x27 ∷ 0 ∷ [], filling (suc (suc n)), refl, small_field r, filled r (suc (suc n)))

-- after complete fields
pub alive_joined : (r : Reading) (room : ℕ) (fs : List Field) (a b : List ℕ) → FieldList r fs a → AliveIn r room b → AliveIn r (length a + room) (a ++ b)
alive_joined r room fs a b p h = record {
  value = fs ++ h.value;
  rest = h.rest;
  spelled = (
    subst (FieldList r (fs ++ h.value)) (sym (append_assoc a b h.rest)) (list_joined r fs h.value a (b ++ h.rest) p h.spelled.0),
    omega (arith, ap length (append_assoc a b h.rest), length-append a (b ++ h.rest), h.spelled.1),
  );
}

pub alive_apart : (r : Reading) (room : ℕ) (fs : List Field) (a b : List ℕ) → FieldList r fs a → AliveIn r (length a + room) (a ++ b) → AliveIn r room b
alive_apart r room fs a b p h =
    let more = after_fields r fs h.value a (b ++ h.rest) p (subst (FieldList r h.value) (append_assoc a b h.rest) h.spelled.0) in
    record { value = more.0; rest = h.rest; spelled = (more.1, omega (arith, ap length (append_assoc a b h.rest), length-append a (b ++ h.rest), h.spelled.1)) }
