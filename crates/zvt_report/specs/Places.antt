-- The number of an order, and the entry of the book that it booked or takes back.
use Rattle.std.specs.Prelude.{◌≡◌, ℕ, ◌+◌, ◌<◌, ◌≤◌, ◌^◌, ◌==◌, Bool, false, cond, List, [], ◌∷◌, ◌++◌, Option, Some, None, option_map, sum_by, refl}
use Rattle.std.specs.List.{position}
use Rattle.zvt_till.specs.declared.happenings.Sent.{Sent}
use Rattle.zvt_till.specs.declared.happenings.Sent.TheVariants.{Register, Pay, Reverse}
use Rattle.zvt_till.specs.declared.outcomes.Cause.TheVariants.{Line}
use Rattle.zvt_till.specs.declared.outcomes.Outcome.{Outcome}
use Rattle.zvt_till.specs.declared.outcomes.Outcome.TheVariants.{Registered, Paid, Declined, Unclear, Reversed}
use Rattle.zvt_report.specs.Chapters.{Noted}
use Rattle.zvt_report.specs.Day.{day_of}
use Rattle.zvt_report.specs.declared.places.Counts.{Counts}
use Rattle.zvt_report.specs.declared.places.Place.{Place}
use Rattle.zvt_report.specs.declared.rows.OrderRow.{OrderRow}

-- ---- one row

-- the number of the order among the payments, if it is one
abbrev pub payment_by : (payments : ℕ) → Sent → Option ℕ
payment_by payments (Pay a) = Some (payments + 1)
payment_by payments _ = None

-- the entry that a payment booked, or the one that a reversal takes back
abbrev pub entry_by : (entries : ℕ) → Sent → Outcome → Option ℕ
entry_by entries (Pay a) (Paid trace receipt) = Some entries
entry_by entries (Reverse e) outcome = Some e
entry_by entries _ _ = None

abbrev pub payments_by : Sent → ℕ
payments_by (Pay a) = 1
payments_by _ = 0

abbrev pub entries_by : Sent → Outcome → ℕ
entries_by (Pay a) (Paid trace receipt) = 1
entries_by _ _ = 0

abbrev pub no_counts : Counts
no_counts = record { orders = 0; payments = 0; entries = 0 }

-- one more order can be counted, and there were no more payments or entries than orders
abbrev pub HasRoom : Counts → Type 0
HasRoom c = (c.orders + 1 < 2 ^ 64) × (c.payments ≤ c.orders) × (c.entries ≤ c.orders)

abbrev pub counted : Counts → OrderRow → Counts
counted c row = record { orders = c.orders + 1; payments = c.payments + payments_by row.order; entries = c.entries + entries_by row.order row.outcome }

-- Orders and payments are numbered from 1. The first booked payment is the first entry of the book, and so on.
abbrev pub place_after : Counts → OrderRow → Place
place_after c row = record { order = c.orders + 1; payment = payment_by c.payments row.order; entry = entry_by c.entries row.order row.outcome }

-- ---- all rows

-- the place of each row, after these counts
abbrev pub places_from : Counts → List OrderRow → List Place
places_from c [] = []
places_from c (row ∷ rows) = place_after c row ∷ places_from (counted c row) rows

abbrev pub places : List OrderRow → List Place
places rows = places_from no_counts rows

-- the number of payments among these rows
abbrev pub payments_in : List OrderRow → ℕ
payments_in rows = sum_by (λ (row : OrderRow). payments_by row.order) rows

-- a payment that booked the entry at this place
abbrev pub books_as : (entries place : ℕ) → Sent → Outcome → Bool
books_as entries place (Pay a) (Paid trace receipt) = entries == place
books_as entries place _ _ = false

-- the number of the payment that booked the entry at this place
abbrev pub payment_from : Counts → (place : ℕ) → List OrderRow → Option ℕ
payment_from c place [] = None
payment_from c place (row ∷ rows) = cond (books_as c.entries place row.order row.outcome) (Some (c.payments + 1)) (payment_from (counted c row) place rows)

abbrev pub payment_of : (place : ℕ) → List OrderRow → Option ℕ
payment_of place rows = payment_from no_counts place rows

abbrev pub takes_back_as : (place : ℕ) → Sent → Outcome → Bool
takes_back_as place (Reverse e) Reversed = e == place
takes_back_as place _ _ = false

-- a reversal that took back the entry at this place
abbrev pub takes_back : (place : ℕ) → OrderRow → Bool
takes_back place row = takes_back_as place row.order row.outcome

-- the number of the first order that took back the entry at this place
abbrev pub reversed_by : (place : ℕ) → List OrderRow → Option ℕ
reversed_by place rows = option_map (λ (skipped : ℕ). skipped + 1) (position (takes_back place) rows)

-- ---- a law

-- the entry that the payment at this place booked, if it did
abbrev pub booked_place : Place → List ℕ
booked_place p = elim p.payment [ None ↦ [] | Some n ↦ elim p.entry [ None ↦ [] | Some e ↦ e ∷ [] ] ]

-- the entries that the payments at these places booked
abbrev pub booked_places : List Place → List ℕ
booked_places [] = []
booked_places (p ∷ ps) = booked_place p ++ booked_places ps

-- the places of the items of a list whose first one has this place
abbrev pub indices_from : {A : Type 0} → (first : ℕ) → List A → List ℕ
indices_from first [] = []
indices_from first (item ∷ items) = first ∷ indices_from (first + 1) items

-- the payments that were booked have the entries of the book, each one once, in the same order
abbrev pub PlacesNameEntries : Type 0
PlacesNameEntries = (notes : List Noted) → booked_places (places (day_of notes).orders) ≡ indices_from 0 (day_of notes).book

-- ---- rows worked by hand

abbrev a_row : Sent → Outcome → OrderRow
a_row order outcome = record { order = order; first = 1; last = 2; outcome = outcome; approval = None; time = None; card = None }

abbrev a_place : ℕ → Option ℕ → Option ℕ → Place
a_place order payment entry = record { order = order; payment = payment; entry = entry }

abbrev a_day : List OrderRow
a_day =
    a_row (Register None) Registered ∷ a_row (Pay 500) (Paid 1 None) ∷ a_row (Pay 500) (Declined 0x65) ∷ a_row (Pay 700) (Paid 2 None)
    ∷ a_row (Reverse 1) (Unclear Line) ∷ a_row (Reverse 1) Reversed ∷ a_row (Pay 900) (Unclear Line) ∷ []

-- a declined payment has a number and no entry, and the reversals are of the second entry
its_places : places a_day
    ≡ a_place 1 None None ∷ a_place 2 (Some 1) (Some 0) ∷ a_place 3 (Some 2) None ∷ a_place 4 (Some 3) (Some 1) ∷ a_place 5 None (Some 1) ∷ a_place 6 None (Some 1) ∷ a_place 7 (Some 4) None ∷ []
its_places = refl

second_entry : payment_of 1 a_day ≡ Some 3
second_entry = refl

no_third_entry : payment_of 2 a_day ≡ None
no_third_entry = refl

taken_back_once : reversed_by 1 a_day ≡ Some 6
taken_back_once = refl

never_taken_back : reversed_by 0 a_day ≡ None
never_taken_back = refl
