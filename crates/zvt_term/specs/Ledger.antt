-- The rows of the ledger, and the tests on them.
use Rattle.std.specs.Prelude.{◌≡◌, ℕ, ◌+◌, ◌<◌, ◌==◌, ◌&&◌, Bool, true, false, List, [], ◌∷◌, Option, Some, None, slice_get}
use Rattle.std.specs.List.{find, list_any}
use Rattle.zvt_till.specs.Statuses.{spells}
use Rattle.zvt_term.specs.declared.ledger.Row.{Row}

-- a row that approves, and does not take back
abbrev pub is_approval : Row → Bool
is_approval row = elim row.reverses [ None ↦ true | Some original ↦ false ]

-- the row reverses the approval with this number
abbrev pub takes_back : ℕ → Row → Bool
takes_back original row = elim row.reverses [ None ↦ false | Some n ↦ n == original ]

-- an approval of the number that the digits spell
abbrev pub is_approval_named : List ℕ → Row → Bool
is_approval_named digits row = is_approval row && spells digits row.number

abbrev pub approval_by : List ℕ → List Row → Option Row
approval_by digits rows = find (is_approval_named digits) rows

abbrev pub is_taken_back : ℕ → List Row → Bool
is_taken_back original rows = list_any (takes_back original) rows

-- the rows are numbered, one after another
abbrev pub NumberedFrom : ℕ → List Row → Type 0
NumberedFrom n [] = Unit {0}
NumberedFrom n (row ∷ rows) = (row.number ≡ n) × NumberedFrom (n + 1) rows

-- what is reversed, if anything, is a row of the ledger
abbrev pub IsRowOf : List Row → Option ℕ → Type 0
IsRowOf rows None = Unit {0}
IsRowOf rows (Some original) = (k : ℕ) × (row : Row) × (slice_get rows k ≡ Some row) × (row.number ≡ original)

-- what is reversed, if anything, has a smaller number
abbrev pub IsBefore : Option ℕ → ℕ → Type 0
IsBefore None number = Unit {0}
IsBefore (Some original) number = original < number

-- each row reverses none or an earlier one
abbrev pub ReverseEarlier : List Row → Type 0
ReverseEarlier [] = Unit {0}
ReverseEarlier (row ∷ rows) = IsBefore row.reverses row.number × ReverseEarlier rows
