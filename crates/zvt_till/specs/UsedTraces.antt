-- The used trace numbers, one bit per number, as words that contracts see.
use Rattle.std.specs.Prelude.{◌≡◌, ℕ, ◌/◌, ◌%◌, Bool, nat_eq, nat_le, List, length, slice_index}
use Rattle.std.specs.Int.{bit_at}
use Rattle.zvt_till.specs.declared.entries.Entry.{Entry}
use Rattle.zvt_till.specs.Outcomes.{trace_used}

-- there is a bit for each number from 0 to 999,999
abbrev pub has_capacity : List ℕ → Bool
has_capacity words = nat_le 15625 (length words)

-- the number is used; 64 numbers are in a word
unfoldable pub has : List ℕ → ℕ → Bool
has words number = nat_eq (bit_at (slice_index words (number / 64)) (number % 64)) 1

-- the numbers that the rows of a book have, and no other
abbrev pub AreTracesOf : List ℕ → List Entry → Type 0
AreTracesOf used book = (number : ℕ) → has used number ≡ trace_used number book
