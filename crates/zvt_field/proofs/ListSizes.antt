-- One more field after others.
use Rattle.std.proofs.Common.{◌≡◌, ℕ, ◌+◌, ◌<◌, ◌^◌, ◌≤◌, List, [], ◌∷◌, ◌++◌, length, take, drop, get_or, refl, sym, ◌∙◌, ap, subst, arith, length-append}
use Rattle.std.proofs.lemmas.List.{append-nil, take-append-drop, take_all}
use Rattle.zvt_grammar.specs.Reading.{shortest}
use Rattle.zvt_field.specs.Grammar.{Field, FieldList}
use Rattle.zvt_field.specs.Spelling.{spelling_of, spelling_of_all, size_of_field}
use Rattle.zvt_field.specs.Bodies.{HasSpelling, HaveSpelling}
use Rattle.zvt_field.specs.Lists.{HaveSize}
use Rattle.zvt_field.proofs.FieldLists.{list_joined}
use Rattle.zvt_field.proofs.Writing.{all_more}
use Rattle.zvt_field.proofs.Spellings.{field_spelled, field_sized, list_spelled, all_joined}

pub more_sized : (fs gs : List Field) (f : Field) (size n : ℕ) → HaveSize fs size → fs ≡ gs → HasSpelling f → n ≡ size_of_field f → size + n < 2 ^ 16 → HaveSize (gs ++ f ∷ []) (size + n)
more_sized fs gs f size n h same one e small = record {
  bytes = h.bytes ++ one.bytes;
  spelled = list_joined shortest gs (f ∷ []) h.bytes one.bytes (subst (λ (x : List Field). FieldList shortest x h.bytes) same h.spelled)
      (one.bytes, [], sym (append-nil one.bytes), one.spelled, refl);
  sized = omega (arith, length-append h.bytes one.bytes, h.sized, ap length (field_spelled f one.bytes one.spelled), field_sized f, e);
  small = small;
}

pub more_spelled : (fs gs : List Field) (f : Field) (size n : ℕ) → HaveSize fs size → fs ≡ gs → HasSpelling f → n ≡ size_of_field f → size + n < 2 ^ 16 → HaveSpelling (gs ++ f ∷ [])
more_spelled fs gs f size n h same one e small =
    let m = more_sized fs gs f size n h same one e small in record { bytes = m.bytes; spelled = m.spelled; small = omega (arith, m.sized, m.small) }

pub too_large : (fs gs : List Field) (f : Field) (size n : ℕ) → HaveSize fs size → fs ≡ gs → n ≡ size_of_field f → 65535 < size + n → HaveSpelling (gs ++ f ∷ []) → ⊥
too_large fs gs f size n h same e large whole =
    omega (
      arith,
      whole.small,
      ap length (list_spelled (gs ++ f ∷ []) whole.bytes whole.spelled),
      ap length (all_joined gs (f ∷ [])),
      length-append (spelling_of_all gs) (spelling_of f ++ []),
      ap length (append-nil (spelling_of f)),
      field_sized f,
      ap (λ (x : List Field). length (spelling_of_all x)) same,
      ap length (list_spelled fs h.bytes h.spelled),
      h.sized,
    )

-- the sizes of fields, one after another
pub next_total : (fs : List Field) (i : ℕ) (f : Field) (total n : ℕ) → i < length fs → f ≡ get_or fs i f → total ≡ length (spelling_of_all (take i fs)) → n ≡ size_of_field f →
    total + n ≡ length (spelling_of_all (take (i + 1) fs))
next_total fs i f total n lt is e size =
    omega (arith, e, size, ap length (all_more fs i f lt is), length-append (spelling_of_all (take i fs)) (spelling_of f), field_sized f)

pub total_small : (fs : List Field) (i : ℕ) (f : Field) (total n : ℕ) → HaveSpelling fs → i < length fs → f ≡ get_or fs i f → total ≡ length (spelling_of_all (take i fs)) → n ≡ size_of_field f → total + n < 2 ^ 16
total_small fs i f total n h lt is e size =
    let whole : spelling_of_all fs ≡ spelling_of_all (take (i + 1) fs) ++ spelling_of_all (drop (i + 1) fs) = ap spelling_of_all (sym (take-append-drop (i + 1) fs)) ∙ all_joined (take (i + 1) fs) (drop (i + 1) fs) in
    omega (arith, next_total fs i f total n lt is e size, h.small, ap length (list_spelled fs h.bytes h.spelled), ap length whole, length-append (spelling_of_all (take (i + 1) fs)) (spelling_of_all (drop (i + 1) fs)))

pub total_all : (fs : List Field) (i total : ℕ) → HaveSpelling fs → length fs ≤ i → total ≡ length (spelling_of_all (take i fs)) → HaveSize fs total
total_all fs i total h ended e =
    let sized : length h.bytes ≡ total = ap length (list_spelled fs h.bytes h.spelled) ∙ ap (λ (l : List Field). length (spelling_of_all l)) (sym (take_all i fs ended)) ∙ sym e in
    record { bytes = h.bytes; spelled = h.spelled; sized = sized; small = omega (arith, sized, h.small) }
