-- The payments that were booked have the entries of the book.
use Rattle.std.proofs.Common.{◌≡◌, ℕ, ◌+◌, List, [], ◌∷◌, ◌++◌, map, refl, ap, ◌∙◌, arith}
use Rattle.zvt_till.specs.Books.{Booked}
use Rattle.zvt_till.specs.Laws.{row_of}
use Rattle.zvt_till.specs.declared.happenings.Sent.{Sent}
use Rattle.zvt_till.specs.declared.happenings.Sent.TheVariants.{Register, Pay, Reverse, CloseDay, Cancel, Foreign}
use Rattle.zvt_till.specs.declared.outcomes.Outcome.{Outcome}
use Rattle.zvt_till.specs.declared.outcomes.Outcome.TheVariants.{Registered, Paid, Declined, Refused, Aborted, Unclear, Reversed, DayClosed}
use Rattle.zvt_report.specs.Day.{day_of}
use Rattle.zvt_report.specs.Laws.{booked_by, booked_in}
use Rattle.zvt_report.specs.Places.{PlacesNameEntries, booked_place, booked_places, counted, entries_by, entry_by, indices_from, no_counts, payment_by, places_from}
use Rattle.zvt_report.specs.declared.places.Counts.{Counts}
use Rattle.zvt_report.specs.declared.rows.OrderRow.{OrderRow}
use Rattle.zvt_report.proofs.LawLemmas.{each_order_has_a_row}

-- no more entries
same : (c : Counts) (rows : List Booked) (later : List ℕ) → later ≡ indices_from (c.entries + 0) rows → later ≡ indices_from c.entries rows
same c rows later e = e ∙ ap (λ (n : ℕ). indices_from n rows) (omega arith)

-- one row more, after these counts
one_place : (c : Counts) (order : Sent) (outcome : Outcome) (later : List ℕ) (rows : List Booked) → later ≡ indices_from (c.entries + entries_by order outcome) rows
    → booked_place (record { order = c.orders + 1; payment = payment_by c.payments order; entry = entry_by c.entries order outcome }) ++ later ≡ indices_from c.entries (booked_by order outcome ++ rows)
one_place c (Register currency) outcome later rows e = same c rows later e
one_place c (Pay a) Registered later rows e = same c rows later e
one_place c (Pay a) (Paid trace receipt) later rows e = ap (λ (l : List ℕ). c.entries ∷ l) e
one_place c (Pay a) (Declined code) later rows e = same c rows later e
one_place c (Pay a) (Refused code) later rows e = same c rows later e
one_place c (Pay a) (Aborted code) later rows e = same c rows later e
one_place c (Pay a) (Unclear cause) later rows e = same c rows later e
one_place c (Pay a) Reversed later rows e = same c rows later e
one_place c (Pay a) DayClosed later rows e = same c rows later e
one_place c (Reverse entry) outcome later rows e = same c rows later e
one_place c CloseDay outcome later rows e = same c rows later e
one_place c Cancel outcome later rows e = same c rows later e
one_place c Foreign outcome later rows e = same c rows later e

all_places : (c : Counts) (rows : List OrderRow) → booked_places (places_from c rows) ≡ indices_from c.entries (booked_in rows)
all_places c [] = refl
all_places c (row ∷ rows) = one_place c row.order row.outcome (booked_places (places_from (counted c row) rows)) (booked_in rows) (all_places (counted c row) rows)

same_indices : {A B : Type 0} (f : A → B) (first : ℕ) (items : List A) → indices_from first (map f items) ≡ indices_from first items
same_indices f first [] = refl
same_indices f first (item ∷ items) = ap (λ (l : List ℕ). first ∷ l) (same_indices f (first + 1) items)

pub places_name_entries : PlacesNameEntries
places_name_entries notes = all_places no_counts (day_of notes).orders ∙ ap (indices_from 0) ((each_order_has_a_row notes).2) ∙ same_indices row_of 0 (day_of notes).book
