-- Reversals that a status information answers by its receipt number alone.
--
-- Such a status names no payment (BMP 37). If it has the amount of the entry, and no other payment, booked or unclear, has
-- that amount, then it answers either the payment itself or its reversal. The answer of the payment has the receipt number
-- of the entry, so a status with another receipt number answers the reversal.
use Rattle.std.specs.Prelude.{ℕ, Bool, not, cond, ◌&&◌, ◌==◌, List, Option, Some, None}
use Rattle.std.specs.List.{count_by, list_any}
use Rattle.zvt_till.specs.declared.entries.Entry.{Entry}
use Rattle.zvt_till.specs.declared.outcomes.Cause.{Cause}

-- the number of entries with this amount
abbrev pub count_of : ℕ → List Entry → ℕ
count_of amount book = count_by (λ row. row.amount == amount) book

-- an unclear payment has this amount
abbrev pub has_unclear : ℕ → List (ℕ × Cause) → Bool
has_unclear amount unclear = list_any (λ row. row.0 == amount) unclear

-- one entry has this amount, and no unclear payment does
abbrev pub is_sole : ℕ → List Entry → List (ℕ × Cause) → Bool
is_sole amount book unclear = (count_of amount book == 1) && not (has_unclear amount unclear)

-- The receipt number from which the status of a reversal of the entry must differ to answer it without its trace number.
-- There is none if the shop has not stated the rule, or if another payment has the amount.
abbrev pub sole_receipt : Bool → List Entry → List (ℕ × Cause) → Entry → Option (List ℕ)
sole_receipt by_receipt book unclear row = cond (by_receipt && is_sole row.amount book unclear) row.receipt None

-- the same for an entry that may be missing
abbrev pub sole_at : Bool → List Entry → List (ℕ × Cause) → Option Entry → Option (List ℕ)
sole_at by_receipt book unclear None = None
sole_at by_receipt book unclear (Some row) = sole_receipt by_receipt book unclear row
