-- What is known of notes whose orders are judged from the left.
use Rattle.std.specs.Prelude.{◌≡◌, ℕ, Bool, true, false, List, [], ◌∷◌, ◌++◌, Option, Some, None, fold}
use Rattle.std.specs.List.{list_any}
use Rattle.zvt_till.specs.declared.happenings.Sent.{Sent}
use Rattle.zvt_till.specs.declared.entries.Entry.{Entry}
use Rattle.zvt_till.specs.declared.outcomes.Cause.{Cause}
use Rattle.zvt_till.specs.declared.orders.Order.{Order}
use Rattle.zvt_till.specs.declared.outcomes.Outcome.{Outcome}
use Rattle.zvt_till.specs.declared.statuses.Statuses.TheVariants.{Nothing}
use Rattle.zvt_till.specs.Settings.{strict}
use Rattle.zvt_till.specs.Segments.{Ended, end_of, in_force, is_positive, statuses}
use Rattle.zvt_till.specs.Outcomes.{demand_of, listened, note}
use Rattle.zvt_till.specs.Till.{book_after, unclear_after}
use Rattle.zvt_report.specs.Chapters.{Noted, Chapter, chapters, ended, happenings, last_line}
use Rattle.zvt_report.specs.Day.{DayValue, approval_at, day_in, first_approval, judged_as, with_row}
use Rattle.zvt_report.specs.declared.day.OpenOrder.{OpenOrder}
use Rattle.zvt_report.specs.declared.rows.Approval.{Approval}
use Rattle.zvt_report.specs.declared.rows.OrderRow.{OrderRow}

-- ---- an order that runs

-- it was just sent
abbrev pub opened : (currency : Option ℕ) → Sent → (line : ℕ) → OpenOrder
opened currency order line =
    record {
      sent = order;
      currency = currency;
      first = line;
      last = line;
      running = record { order = judged_as order; positive = false; statuses = Nothing };
      approval = None;
    }

-- the first of both
abbrev pub first_of : Option Approval → Option Approval → Option Approval
first_of None later = later
first_of (Some a) later = Some a

-- it goes on after one more note, with this book and these unclear payments
abbrev pub goes_on : List Entry → List (ℕ × Cause) → OpenOrder → Noted → OpenOrder
goes_on book unclear o n =
    record {
      sent = o.sent;
      currency = o.currency;
      first = o.first;
      last = n.line;
      running = listened (demand_of strict o.currency book unclear o.running.order) o.running n.happening;
      approval = first_of o.approval (approval_at n);
    }

-- its row, if it ends like this at this line
abbrev pub row_at : OpenOrder → (last : ℕ) → Outcome → OrderRow
row_at o last outcome = record { order = o.sent; first = o.first; last = last; outcome = outcome; approval = o.approval; time = None; card = None }

-- ---- the day so far

-- the orders that ended, the one that runs, and the currency in force
pub record DaySoFar : Type 0 where
  pub day : DayValue
  pub current : Option OpenOrder
  pub currency : Option ℕ

-- an order had this outcome, and has no row yet
abbrev pub with_outcome : DaySoFar → Order → Outcome → DaySoFar
with_outcome s order outcome =
    record {
      day = record { book = book_after s.day.book order outcome; unclear = unclear_after s.day.unclear order outcome; orders = s.day.orders };
      current = s.current;
      currency = s.currency;
    }

-- an order with this row has ended
abbrev pub added : DaySoFar → OrderRow → DaySoFar
added s row = record { day = with_row s.day (judged_as row.order) row; current = s.current; currency = s.currency }

-- the order did not end
abbrev pub is_open : Option Ended → Bool
is_open None = true
is_open (Some e) = false

abbrev pub open_after : Bool → Chapter → Bool
open_after before c = is_open (ended c)

-- the last order did not end
abbrev pub ends_open : List Chapter → Bool
ends_open cs = fold open_after false cs

-- the last chapter is this order, and everything before it is in the day
pub record Runs (cs : List Chapter) (d : DayValue) (o : OpenOrder) : Type 0 where
  pub closed : List Chapter
  pub answers : List Noted
  pub is : cs ≡ closed ++ record { order = o.sent; currency = o.currency; line = o.first; answers = answers } ∷ []
  pub earlier : d ≡ day_in closed
  pub unended : end_of (happenings answers) ≡ None
  pub order : o.running.order ≡ judged_as o.sent
  pub positive : o.running.positive ≡ list_any is_positive (happenings answers)
  pub heard : o.running.statuses ≡ fold (note (demand_of strict o.currency d.book d.unclear (judged_as o.sent))) Nothing (statuses (happenings answers))
  pub last : o.last ≡ last_line o.first answers
  pub approval : o.approval ≡ first_approval answers

-- no order runs, and the day has all chapters
pub record Rests (cs : List Chapter) (d : DayValue) : Type 0 where
  pub all : d ≡ day_in cs
  pub ended : ends_open cs ≡ false

-- the day of these chapters, without the order that runs at their end
abbrev pub IsJudged : List Chapter → DayValue → Option OpenOrder → Type 0
IsJudged cs d None = Rests cs d
IsJudged cs d (Some o) = Runs cs d o

-- the day of these notes, without the order that runs at their end
abbrev pub HasJudged : List Noted → DaySoFar → Type 0
HasJudged notes so_far = IsJudged (chapters notes) so_far.day so_far.current × (so_far.currency ≡ in_force (happenings notes))
