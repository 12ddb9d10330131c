-- What the rows of the table have in common.
use Rattle.std.proofs.Common.{◌≡◌, ℕ, ◌==◌, ◌&&◌, Bool, true, inl, inr, Option, Some, List, [], ◌∷◌, option_map, refl, sym, ◌∙◌, ap, subst}
use Rattle.std.proofs.lemmas.Bool.{and_parts, cases_Bool, eqb-true}
use Rattle.zvt_field.specs.Shapes.{BmpRow, format_in, format_of, look_up, table}
use Rattle.zvt_field.specs.declared.shapes.Format.{Format}
use Rattle.zvt_field.specs.declared.shapes.Format.TheVariants.{Amount, Bytes, Hidden, Result, Text}

abbrev may_have : Format → ℕ → Bool
may_have Amount bmp = bmp == 0x04
may_have Bytes bmp = true
may_have Result bmp = true
may_have Text bmp = true
may_have Hidden bmp = true

abbrev all_may : List BmpRow → Bool
all_may [] = true
all_may (one ∷ rows) = may_have one.format one.bmp && all_may rows

has : (format : Format) (bmp : ℕ) → may_have format bmp ≡ true → format ≡ Amount → bmp ≡ 0x04
has Amount bmp may is = eqb-true bmp 0x04 may
has Bytes bmp may is = absurd (cc (is))
has Result bmp may is = absurd (cc (is))
has Text bmp may is = absurd (cc (is))
has Hidden bmp may is = absurd (cc (is))

in_rows : (rows : List BmpRow) (bmp : ℕ) → all_may rows ≡ true → format_in (option_map (λ one. one.format) (look_up bmp rows)) ≡ Amount → bmp ≡ 0x04
in_rows [] bmp all is = absurd (cc (is))
in_rows (one ∷ rows) bmp all is =
    let parts = and_parts (may_have one.format one.bmp) (all_may rows) all in
    elim (cases_Bool (bmp == one.bmp)) [
      | inl here ↦ eqb-true bmp one.bmp here ∙ has one.format one.bmp parts.0 (rw here at is)
      | inr other ↦ in_rows rows bmp parts.1 (rw other at is)
    ]

-- the amount alone is shown as one
pub of_amount : (bmp : ℕ) → format_of bmp ≡ Amount → bmp ≡ 0x04
of_amount bmp is = in_rows table bmp refl is
