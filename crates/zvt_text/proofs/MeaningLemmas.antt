-- The words of a number in a table of the code.
use Rattle.std.proofs.Common.{◌≡◌, ◌∙◌, ◌==◌, ℕ, List, [], ◌∷◌, Bor, Option, inl, inr, ap, find, map, refl}
use Rattle.std.specs.Option.{option_map}
use Rattle.std.proofs.lemmas.Bool.{cases_Bool}
use Rattle.zvt_text.specs.Meanings.{words_in}

abbrev pub Row : Type 0
Row = ℕ × Bor (List ℕ)

abbrev pub words_of : Option Row → Option (List ℕ)
words_of row = option_map (λ row. row.1.now) row

abbrev pub plain_rows : List Row → List (ℕ × List ℕ)
plain_rows rows = map (λ row. (row.0, row.1.now)) rows

pub words_found : (rows : List Row) (number : ℕ) → words_of (find (λ row. row.0 == number) rows) ≡ words_in (plain_rows rows) number
words_found [] number = refl
words_found (row ∷ rows) number = elim (cases_Bool (row.0 == number)) [
  | inl here ↦ rw here refl
  | inr other ↦ rw other (words_found rows number)
]

-- the words of the row that was found
pub words_are : (rows : List Row) (number : ℕ) (found : Option Row) → found ≡ find (λ row. row.0 == number) rows → words_of found ≡ words_in (plain_rows rows) number
words_are rows number found is = ap words_of is ∙ words_found rows number
