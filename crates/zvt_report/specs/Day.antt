-- What became of each order of a day, and the book that is left.
use Rattle.std.specs.Prelude.{ℕ, cond, List, [], ◌∷◌, ◌++◌, Option, Some, None, fold, option_map}
use Rattle.zvt_till.specs.declared.happenings.Sent.{Sent}
use Rattle.zvt_till.specs.declared.happenings.Sent.TheVariants.{Register, Pay, Reverse, CloseDay, Cancel, Foreign}
use Rattle.zvt_till.specs.declared.messages.StatusFacts.{StatusFacts}
use Rattle.zvt_till.specs.declared.orders.Order.{Order}
use Rattle.zvt_till.specs.declared.orders.Order.TheVariants.{Register as RegisterOrder, Pay as PayOrder, Reverse as ReverseOrder, CloseDay as CloseDayOrder, Cancel as CancelOrder}
use Rattle.zvt_till.specs.declared.statuses.Statuses.TheVariants.{Nothing}
use Rattle.zvt_till.specs.declared.entries.Entry.{Entry}
use Rattle.zvt_till.specs.declared.outcomes.Cause.{Cause}
use Rattle.zvt_till.specs.declared.outcomes.Cause.TheVariants.{Unfinished}
use Rattle.zvt_till.specs.declared.outcomes.Outcome.{Outcome}
use Rattle.zvt_till.specs.declared.outcomes.Outcome.TheVariants.{Unclear}
use Rattle.zvt_till.specs.Settings.{strict}
use Rattle.zvt_till.specs.Statuses.{is_value}
use Rattle.zvt_till.specs.Segments.{Ended, status_of, statuses}
use Rattle.zvt_till.specs.Outcomes.{demand_of, note, outcome_by}
use Rattle.zvt_till.specs.Till.{book_after, unclear_after}
use Rattle.zvt_report.specs.Chapters.{Noted, Chapter, chapters, ended, heeded, closing_line}
use Rattle.zvt_report.specs.declared.rows.Approval.{Approval}
use Rattle.zvt_report.specs.declared.rows.OrderRow.{OrderRow}

-- The order of a till as which it is judged: one that a till of this software never sends counts as completed unless a
-- status says otherwise, like an end of day.
abbrev pub judged_as : Sent → Order
judged_as (Register c) = RegisterOrder
judged_as (Pay a) = PayOrder a
judged_as (Reverse e) = ReverseOrder e
judged_as CloseDay = CloseDayOrder
judged_as Cancel = CancelOrder
judged_as Foreign = CloseDayOrder

-- how an order ended that was sent with this book, if it ended
abbrev pub outcome_at : List Entry → List (ℕ × Cause) → (currency : Option ℕ) → Order → Option Ended → Outcome
outcome_at book unclear currency order None = Unclear Unfinished
outcome_at book unclear currency order (Some e) = outcome_by book order (fold (note (demand_of strict currency book unclear order)) Nothing (statuses e.before)) e.by

-- the approval that a status states: result 00 and an amount, each once
abbrev pub approval_by : ℕ → StatusFacts → Option Approval
approval_by line s =
    cond (is_value s.result 0) (option_map (λ amount. record { line = line; amount = amount; trace = s.trace; receipt = s.receipt }) s.amount) None

abbrev pub approval_at : Noted → Option Approval
approval_at n = elim (status_of n.happening) [ None ↦ None | Some s ↦ approval_by n.line s ]

-- the first that was noted
abbrev pub first_approval : List Noted → Option Approval
first_approval [] = None
first_approval (n ∷ notes) = elim (approval_at n) [ None ↦ first_approval notes | Some a ↦ Some a ]

-- what became of an order that was sent with this book
abbrev pub row_of : List Entry → List (ℕ × Cause) → Chapter → OrderRow
row_of book unclear c =
    record {
      order = c.order;
      first = c.line;
      last = closing_line c;
      outcome = outcome_at book unclear c.currency (judged_as c.order) (ended c);
      approval = first_approval (heeded c.answers (ended c));
      time = None;
      card = None;
    }

-- the book with its marks, the unclear payments, and a row for each order
pub record DayValue : Type 0 where
  pub book : List Entry
  pub unclear : List (ℕ × Cause)
  pub orders : List OrderRow

abbrev pub no_orders : DayValue
no_orders = record { book = []; unclear = []; orders = [] }

-- the day after an order with this row
abbrev pub with_row : DayValue → Order → OrderRow → DayValue
with_row d order row = record { book = book_after d.book order row.outcome; unclear = unclear_after d.unclear order row.outcome; orders = d.orders ++ row ∷ [] }

abbrev pub day_after : DayValue → Chapter → DayValue
day_after d c = with_row d (judged_as c.order) (row_of d.book d.unclear c)

abbrev pub day_in : List Chapter → DayValue
day_in cs = fold day_after no_orders cs

-- the orders of the notes, each judged by its whole chapter and by the book before it
abbrev pub day_of : List Noted → DayValue
day_of notes = day_in (chapters notes)
