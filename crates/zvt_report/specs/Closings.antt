-- The ends of day that closed a day, and the book of the same time.
use Rattle.std.specs.Prelude.{◌≡◌, ℕ, ◌+◌, ◌==◌, Bool, true, false, cond, List, [], ◌∷◌, ◌++◌, Option, Some, None, option_map, slice_get, take, refl}
use Rattle.std.specs.List.{cons_option, list_any}
use Rattle.zvt_till.specs.declared.entries.Doubt.TheVariants.{No}
use Rattle.zvt_till.specs.declared.entries.Entry.{Entry}
use Rattle.zvt_till.specs.declared.happenings.Sent.{Sent}
use Rattle.zvt_till.specs.declared.happenings.Sent.TheVariants.{Pay, Reverse, CloseDay}
use Rattle.zvt_till.specs.declared.outcomes.Outcome.{Outcome}
use Rattle.zvt_till.specs.declared.outcomes.Outcome.TheVariants.{Paid, Reversed, DayClosed}
use Rattle.zvt_report.specs.CardTotals.{groups_sum}
use Rattle.zvt_report.specs.Explaining.{explain, open_item}
use Rattle.zvt_report.specs.Objects.{message_at}
use Rattle.zvt_report.specs.Places.{takes_back}
use Rattle.zvt_report.specs.Statements.{no_statement}
use Rattle.zvt_report.specs.declared.card_totals.CardTotals.{CardTotals}
use Rattle.zvt_report.specs.declared.closings.Closing.{Closing}
use Rattle.zvt_report.specs.declared.closings.Sums.{Sums}
use Rattle.zvt_report.specs.declared.explaining.Explained.{Explained}
use Rattle.zvt_report.specs.declared.explaining.Explained.TheVariants.{Nothing}
use Rattle.zvt_report.specs.declared.explaining.OpenItem.{OpenItem}
use Rattle.zvt_report.specs.declared.rows.OrderMessage.{OrderMessage}
use Rattle.zvt_report.specs.declared.rows.OrderRow.{OrderRow}
use Rattle.zvt_report.specs.declared.statements.Statement.{Statement}

-- ---- one order

abbrev pub closes_as : Sent → Outcome → Bool
closes_as CloseDay DayClosed = true
closes_as _ _ = false

-- it closed the day
abbrev pub is_closed : OrderRow → Bool
is_closed row = closes_as row.order row.outcome

abbrev pub paid_as : Sent → Outcome → ℕ
paid_as (Pay a) (Paid trace receipt) = a
paid_as _ _ = 0

-- the amount that it booked
abbrev pub paid_by : OrderRow → ℕ
paid_by row = paid_as row.order row.outcome

abbrev pub or_nothing : Option ℕ → ℕ
or_nothing None = 0
or_nothing (Some n) = n

abbrev pub taken_as : List Entry → (earlier : List OrderRow) → Sent → Outcome → ℕ
taken_as book earlier (Reverse e) Reversed = cond (list_any (takes_back e) earlier) 0 (or_nothing (option_map (λ (entry : Entry). entry.amount) (slice_get book e)))
taken_as book earlier _ _ = 0

-- the amount of the entry that it took back, unless an earlier order did
abbrev pub taken_by : List Entry → (earlier : List OrderRow) → OrderRow → ℕ
taken_by book earlier row = taken_as book earlier row.order row.outcome

-- ---- an end of day

abbrev pub total_or : Option ℕ → Option CardTotals → Option ℕ
total_or (Some total) totals = Some total
total_or None totals = option_map (λ (t : CardTotals). groups_sum t.groups) totals

-- the total in BMP 04, or else the sum of the totals by card
abbrev pub stated_total : Statement → Option ℕ
stated_total statement = total_or statement.total statement.totals

-- the statement about the order at this place
abbrev pub statement_at : List Statement → (place : ℕ) → Statement
statement_at statements place = elim (slice_get statements place) [ None ↦ no_statement | Some statement ↦ statement ]

abbrev pub covered_by : Option ℕ → (taken_back : ℕ) → Option ℕ
covered_by stated taken_back = option_map (λ (total : ℕ). total + taken_back) stated

-- what explains a difference, if there is one
abbrev pub explained_if : (booked : ℕ) → (covered : Option ℕ) → List OpenItem → Explained
explained_if booked None items = Nothing
explained_if booked (Some covered) items = cond (covered == booked) Nothing (explain booked covered items)

-- after a time with these sums and these open items
abbrev pub closed_with : Statement → (booked taken_back : ℕ) → List OpenItem → Closing
closed_with statement booked taken_back items =
    record {
      stated = stated_total statement;
      totals = statement.totals;
      booked = booked;
      taken_back = taken_back;
      covered = covered_by (stated_total statement) taken_back;
      explained = explained_if booked (covered_by (stated_total statement) taken_back) items;
    }

-- ---- all of them

-- what was booked and taken back since the last end of day that closed a day; an order that closes one begins anew
abbrev pub no_sums : Sums
no_sums = record { booked = 0; taken_back = 0 }

abbrev pub sums_after : List Entry → (earlier : List OrderRow) → Sums → OrderRow → Sums
sums_after book earlier sums row = cond (is_closed row) no_sums (record { booked = sums.booked + paid_by row; taken_back = sums.taken_back + taken_by book earlier row })

abbrev pub items_after : List OpenItem → (closes : Bool) → Option OpenItem → List OpenItem
items_after items closes item = cond closes [] (items ++ cons_option item [])

abbrev pub closing_of : Statement → Sums → List OpenItem → (closes : Bool) → Option Closing
closing_of statement sums items closes = cond closes (Some (closed_with statement sums.booked sums.taken_back items)) None

-- The rows left are those from this place on. Each order that closed a day stands at its place, with the sums and the open items of
-- the orders since the one that closed the day before.
abbrev pub closings_from : List Entry → List Statement → List OrderMessage → (rows : List OrderRow) → (place : ℕ) → Sums → List OpenItem → (left : List OrderRow) → List (Option Closing)
closings_from book statements messages rows place sums items [] = []
closings_from book statements messages rows place sums items (row ∷ left) =
    closing_of (statement_at statements place) sums items (is_closed row)
    ∷ closings_from book statements messages rows (place + 1) (sums_after book (take place rows) sums row)
    (items_after items (is_closed row) (open_item book (message_at messages place) place row left)) left

abbrev pub closings : List Entry → List Statement → List OrderMessage → List OrderRow → List (Option Closing)
closings book statements messages rows = closings_from book statements messages rows 0 no_sums [] rows

-- ---- rows worked by hand

abbrev a_row : Sent → Outcome → OrderRow
a_row order outcome = record { order = order; first = 1; last = 2; outcome = outcome; approval = None; time = None; card = None }

abbrev an_entry : (amount : ℕ) → Entry
an_entry amount = record { amount = amount; trace = 17; receipt = None; reversed = true; doubt = No }

abbrev totalled : (total : ℕ) → Statement
totalled total = record { declines = false; total = Some total; totals = None; card = None; undoing = None }

abbrev a_closing : (stated booked taken_back : ℕ) → Closing
a_closing stated booked taken_back = record { stated = Some stated; totals = None; booked = booked; taken_back = taken_back; covered = Some (stated + taken_back); explained = Nothing }

-- the payment of the first day is taken back twice on the second, and counts once
two_days : closings (an_entry 500 ∷ an_entry 700 ∷ []) (no_statement ∷ totalled 500 ∷ no_statement ∷ no_statement ∷ no_statement ∷ totalled 300 ∷ []) []
    (a_row (Pay 500) (Paid 17 None) ∷ a_row CloseDay DayClosed ∷ a_row (Pay 700) (Paid 18 None) ∷ a_row (Reverse 0) Reversed ∷ a_row (Reverse 0) Reversed ∷ a_row CloseDay DayClosed ∷ [])
    ≡ None ∷ Some (a_closing 500 500 0) ∷ None ∷ None ∷ None ∷ Some (a_closing 300 700 500) ∷ []
two_days = refl
