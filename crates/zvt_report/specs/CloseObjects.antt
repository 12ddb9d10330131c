-- What the object of an end of day says of its totals.
use Rattle.std.specs.Prelude.{◌≡◌, ℕ, ◌+◌, ◌==◌, cond, Option, Some, None, option_map, refl}
use Rattle.std.specs.Option.{option_and_then}
use Rattle.zvt_report.specs.declared.card_totals.CardTotals.{CardTotals}
use Rattle.zvt_report.specs.declared.closings.Closing.{Closing}
use Rattle.zvt_report.specs.declared.explaining.Explained.{Explained}
use Rattle.zvt_report.specs.declared.explaining.Explained.TheVariants.{Nothing, Empty, One, Two, Three, Several}
use Rattle.zvt_report.specs.declared.members.Member.{Member}
use Rattle.zvt_report.specs.declared.members.Name.TheVariants as name
use Rattle.zvt_report.specs.declared.members.Value.TheVariants as value

-- what was booked less what was taken back
abbrev pub book_member : Option Closing → Option Member
book_member closing = option_map (λ (c : Closing). record { name = name.Book; value = value.Difference c.booked c.taken_back }) closing

abbrev pub difference_member : (booked : ℕ) → (covered : Option ℕ) → Option Member
difference_member booked None = None
difference_member booked (Some covered) = cond (covered == booked) None (Some (record { name = name.Differs; value = value.Difference covered booked }))

-- the stated total less the book, if they differ
abbrev pub differs_member : Option Closing → Option Member
differs_member closing = option_and_then (λ (c : Closing). difference_member c.booked c.covered) closing

abbrev pub groups_of : Option CardTotals → Option Member
groups_of totals = option_map (λ (t : CardTotals). record { name = name.Groups; value = value.Groups t.groups }) totals

-- the totals by card
abbrev pub groups_member : Option Closing → Option Member
groups_member closing = option_and_then (λ (c : Closing). groups_of c.totals) closing

abbrev pub receipts_of : Option CardTotals → Option Member
receipts_of totals = option_map (λ (t : CardTotals). record { name = name.Receipts; value = value.Receipts t.first t.last }) totals

abbrev pub receipts_member : Option Closing → Option Member
receipts_member closing = option_and_then (λ (c : Closing). receipts_of c.totals) closing

abbrev pub stated_of : Option ℕ → Option Member
stated_of stated = option_map (λ (total : ℕ). record { name = name.Stated; value = value.Count total }) stated

abbrev pub stated_member : Option Closing → Option Member
stated_member closing = option_and_then (λ (c : Closing). stated_of c.stated) closing

abbrev pub orders_of : Explained → Option Member
orders_of Nothing = None
orders_of Empty = None
orders_of (One a) = Some (record { name = name.ExplainedBy; value = value.Orders (One a) })
orders_of (Two a b) = Some (record { name = name.ExplainedBy; value = value.Orders (Two a b) })
orders_of (Three a b c) = Some (record { name = name.ExplainedBy; value = value.Orders (Three a b c) })
orders_of Several = None

-- the numbers of the orders that explain the difference
abbrev pub explained_member : Option Closing → Option Member
explained_member closing = option_and_then (λ (c : Closing). orders_of c.explained) closing

-- ---- rows worked by hand

abbrev a_closing : (stated : ℕ) → Option Closing
a_closing stated = Some (record { stated = Some stated; totals = None; booked = 700; taken_back = 200; covered = Some (stated + 200); explained = Two 5 8 })

no_difference : differs_member (a_closing 500) ≡ None
no_difference = refl

a_difference : differs_member (a_closing 450) ≡ Some (record { name = name.Differs; value = value.Difference 650 700 })
a_difference = refl

not_closed : stated_member None ≡ None
not_closed = refl
