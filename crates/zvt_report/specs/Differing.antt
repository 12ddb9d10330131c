-- The ends of day whose total differs from the book.
use Rattle.std.specs.Prelude.{◌≡◌, ℕ, ◌+◌, ◌==◌, Bool, true, false, not, List, [], ◌∷◌, Option, Some, None, slice_get, refl}
use Rattle.std.specs.Option.{option_and_then}
use Rattle.zvt_report.specs.declared.closings.Closing.{Closing}
use Rattle.zvt_report.specs.declared.explaining.Explained.TheVariants.{Nothing}

-- the closing at this place, if the order there closed a day
abbrev pub closing_at : List (Option Closing) → (place : ℕ) → Option Closing
closing_at closings place = option_and_then (λ (found : Option Closing). found) (slice_get closings place)

-- the stated total is not what was booked less what was taken back
abbrev pub differs : Closing → Bool
differs closing = elim closing.covered [ None ↦ false | Some covered ↦ not (covered == closing.booked) ]

-- the order at this place closed a day with such a total
abbrev pub differs_at : List (Option Closing) → (place : ℕ) → Bool
differs_at closings place = elim (closing_at closings place) [ None ↦ false | Some closing ↦ differs closing ]

-- ---- rows worked by hand

abbrev a_closing : (covered : Option ℕ) → Closing
a_closing covered = record { stated = covered; totals = None; booked = 500; taken_back = 0; covered = covered; explained = Nothing }

same_total : differs (a_closing (Some 500)) ≡ false
same_total = refl

other_total : differs_at (None ∷ Some (a_closing (Some 300)) ∷ []) 1 ≡ true
other_total = refl

no_total : differs (a_closing None) ≡ false
no_total = refl

no_close : differs_at (None ∷ []) 0 ≡ false
no_close = refl
