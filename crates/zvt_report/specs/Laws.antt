-- The laws of a day.
use Rattle.std.specs.Prelude.{◌≡◌, ℕ, ◌+◌, ◌<◌, Bool, true, false, not, ◌||◌, cond, List, [], ◌∷◌, ◌++◌, length, Option, Some, None, map, slice_get, sum_by}
use Rattle.std.specs.List.{list_all}
use Rattle.zvt_till.specs.declared.entries.Entry.{Entry}
use Rattle.zvt_till.specs.declared.happenings.Sent.{Sent}
use Rattle.zvt_till.specs.declared.happenings.Sent.TheVariants.{Register, Pay, Reverse, CloseDay, Cancel, Foreign}
use Rattle.zvt_till.specs.declared.outcomes.Outcome.{Outcome}
use Rattle.zvt_till.specs.declared.outcomes.Outcome.TheVariants.{Paid, Unclear}
use Rattle.zvt_till.specs.declared.outcomes.Cause.{Cause}
use Rattle.zvt_till.specs.Books.{Booked, booked_as, books}
use Rattle.zvt_till.specs.Doubts.{is_unclear}
use Rattle.zvt_till.specs.Laws.{row_of}
use Rattle.zvt_till.specs.Marks.{entries, total}
use Rattle.zvt_till.specs.Segments.{Ended}
use Rattle.zvt_till.specs.Settings.{strict}
use Rattle.zvt_report.specs.Chapters.{Noted, Chapter, chapters, ended, happenings}
use Rattle.zvt_report.specs.Day.{DayValue, day_after, day_of, no_orders}
use Rattle.zvt_report.specs.LookLaws.{is_left_open}
use Rattle.zvt_report.specs.declared.rows.OrderRow.{OrderRow}

-- a day books the payments of its log, and leaves those unclear that the log leaves open
abbrev pub SameBooks : Type 0
SameBooks =
    (notes : List Noted)
    → (map row_of (day_of notes).book ≡ (books (happenings notes)).booked) × ((day_of notes).unclear ≡ (books (happenings notes)).unclear)

-- ---- the same marks

-- a reversal takes back an entry of the book
abbrev pub IsOfEntry : List Entry → Sent → Type 0
IsOfEntry book (Register c) = Unit {0}
IsOfEntry book (Pay a) = Unit {0}
IsOfEntry book (Reverse e) = e < length book
IsOfEntry book CloseDay = Unit {0}
IsOfEntry book Cancel = Unit {0}
IsOfEntry book Foreign = Unit {0}

-- each reversal takes back an entry of the book before it
abbrev pub AreOfEntries : DayValue → List Chapter → Type 0
AreOfEntries d [] = Unit {0}
AreOfEntries d (c ∷ cs) = IsOfEntry d.book c.order × AreOfEntries (day_after d c) cs

abbrev pub is_reversal : Sent → Bool
is_reversal (Register c) = false
is_reversal (Pay a) = false
is_reversal (Reverse e) = true
is_reversal CloseDay = false
is_reversal Cancel = false
is_reversal Foreign = false

abbrev pub has_ended : Option Ended → Bool
has_ended None = false
has_ended (Some e) = true

-- the order is no reversal, or it ended
abbrev pub reversal_ended : Chapter → Bool
reversal_ended c = not (is_reversal c.order) || has_ended (ended c)

-- If each reversal takes back an entry of the book and ended, the day has the book of a till with that log: the same entries,
-- marks and doubts. A till leaves a reversal that did not end undecided, since it still runs; a day calls it unclear.
abbrev pub SameMarks : Type 0
SameMarks =
    (notes : List Noted)
    → AreOfEntries no_orders (chapters notes) → list_all reversal_ended (chapters notes) ≡ true
    → (day_of notes).book ≡ entries strict (happenings notes)

-- ---- each order has one row

abbrev pub booked_by : Sent → Outcome → List Booked
booked_by (Pay a) (Paid trace receipt) = booked_as a trace receipt ∷ []
booked_by _ _ = []

abbrev pub unclear_by : Sent → Outcome → List (ℕ × Cause)
unclear_by (Pay a) (Unclear cause) = (a, cause) ∷ []
unclear_by _ _ = []

abbrev pub booked_in : List OrderRow → List Booked
booked_in [] = []
booked_in (row ∷ rows) = booked_by row.order row.outcome ++ booked_in rows

abbrev pub unclear_in : List OrderRow → List (ℕ × Cause)
unclear_in [] = []
unclear_in (row ∷ rows) = unclear_by row.order row.outcome ++ unclear_in rows

-- there is one row for each order, in the same order, and the rows give the book and the unclear payments
abbrev pub EachOrderHasARow : Type 0
EachOrderHasARow =
    (notes : List Noted)
    → (map (λ (row : OrderRow). row.order) (day_of notes).orders ≡ map (λ (c : Chapter). c.order) (chapters notes))
    × (map (λ (row : OrderRow). row.first) (day_of notes).orders ≡ map (λ (c : Chapter). c.line) (chapters notes))
    × (booked_in (day_of notes).orders ≡ map row_of (day_of notes).book)
    × (unclear_in (day_of notes).orders ≡ (day_of notes).unclear)

-- ---- sums

abbrev pub taken : Entry → ℕ
taken entry = cond entry.reversed entry.amount 0

-- the sum of the entries that were taken back
abbrev pub taken_back : List Entry → ℕ
taken_back book = sum_by taken book

-- the sum of all entries
abbrev pub booked_total : List Entry → ℕ
booked_total book = sum_by (λ (entry : Entry). entry.amount) book

-- what stands and what was taken back make what was booked
abbrev pub SumsMakeBooked : Type 0
SumsMakeBooked = (book : List Entry) → total book + taken_back book ≡ booked_total book

-- ---- doubts

-- If each reversal takes back an entry of the book, the reversal of an entry is unclear exactly if one was left open.
abbrev pub DoubtsAreLeftOpen : Type 0
DoubtsAreLeftOpen =
    (notes : List Noted) (place : ℕ) (entry : Entry)
    → AreOfEntries no_orders (chapters notes) → slice_get (day_of notes).book place ≡ Some entry
    → is_unclear entry ≡ is_left_open place (day_of notes).orders
