-- The text of a log's books.
use Rattle.std.specs.Prelude.{ℕ, List, [], ◌∷◌, ◌++◌, codes}
use Rattle.std.specs.Fmt.{decimal}
use Rattle.std.specs.List.{flat_map, sum_by}
use Rattle.zvt_till.specs.Books.{Booked, Books}
use Rattle.zvt_till.specs.Names.{cause_name}
use Rattle.zvt_till.specs.declared.outcomes.Cause.{Cause}
use Rattle.zvt_text.specs.Numbers.{numbers_text}

abbrev pub booked_line : Booked → List ℕ
booked_line row = codes "booked " ++ decimal row.amount ++ 32 ∷ numbers_text row.trace row.receipt ++ 10 ∷ []

abbrev pub unclear_line : ℕ × Cause → List ℕ
unclear_line row = codes "unclear " ++ decimal row.0 ++ 32 ∷ cause_name row.1 ++ 10 ∷ []

-- the sum of what was booked
abbrev pub total : List Booked → ℕ
total rows = sum_by (λ row. row.amount) rows

abbrev pub total_line : List Booked → List ℕ
total_line rows = codes "total " ++ decimal (total rows) ++ 10 ∷ []

-- the completed payments, the unclear ones, and the sum of the completed ones
abbrev pub books_text : Books → List ℕ
books_text books = flat_map booked_line books.booked ++ flat_map unclear_line books.unclear ++ total_line books.booked
