-- The sums of a day.
use Rattle.std.specs.Prelude.{ℕ, List, sum_by, cond}
use Rattle.zvt_till.specs.declared.entries.Entry.{Entry}
use Rattle.zvt_till.specs.declared.outcomes.Cause.{Cause}
use Rattle.zvt_till.specs.Doubts.{is_unclear}

-- the sum of the unclear payments
abbrev pub unclear_total : List (ℕ × Cause) → ℕ
unclear_total unclear = sum_by (λ (row : ℕ × Cause). row.0) unclear

abbrev pub one_if_reversed : Entry → ℕ
one_if_reversed entry = cond entry.reversed 1 0

-- the number of entries that were taken back
abbrev pub reversed_count : List Entry → ℕ
reversed_count book = sum_by one_if_reversed book

abbrev pub one_if_unclear : Entry → ℕ
one_if_unclear entry = cond (is_unclear entry) 1 0

-- the number of entries whose reversal is unclear
abbrev pub unclear_reversals : List Entry → ℕ
unclear_reversals book = sum_by one_if_unclear book
