-- When an end of day counts as closed.
use Rattle.std.specs.Prelude.{◌≡◌, ℕ, ◌+◌, Bool, true, false, List, [], ◌∷◌, Option, Some, None, slice_get, refl}
use Rattle.zvt_till.specs.declared.happenings.Sent.{Sent}
use Rattle.zvt_till.specs.declared.happenings.Sent.TheVariants.{Pay, CloseDay}
use Rattle.zvt_till.specs.declared.outcomes.Cause.{Cause}
use Rattle.zvt_till.specs.declared.outcomes.Cause.TheVariants.{Conflict, Line}
use Rattle.zvt_till.specs.declared.outcomes.Outcome.{Outcome}
use Rattle.zvt_till.specs.declared.outcomes.Outcome.TheVariants.{Unclear, DayClosed}
use Rattle.zvt_report.specs.Day.{DayValue}
use Rattle.zvt_report.specs.declared.cards.Card.{Card}
use Rattle.zvt_report.specs.declared.rows.OrderRow.{OrderRow}
use Rattle.zvt_report.specs.declared.statements.Statement.{Statement}

-- Statuses conflict only in an order that was completed. Real terminals leave the result code out of the status with the totals,
-- so an end of day is closed unless a status declines it.
abbrev pub closed_if : Bool → Outcome
closed_if true = Unclear Conflict
closed_if false = DayClosed

abbrev pub settled_outcome : Sent → Outcome → (declines : Bool) → Outcome
settled_outcome CloseDay (Unclear Conflict) declines = closed_if declines
settled_outcome _ outcome declines = outcome

-- a status declines the order at this place, or nothing is known of it
abbrev pub declined_at : List Statement → (place : ℕ) → Bool
declined_at statements place = elim (slice_get statements place) [ None ↦ true | Some statement ↦ statement.declines ]

-- the card of the order at this place
abbrev pub card_at : List Statement → (place : ℕ) → Option Card
card_at statements place = elim (slice_get statements place) [ None ↦ None | Some statement ↦ statement.card ]

abbrev pub settled_row : List Statement → (place : ℕ) → OrderRow → OrderRow
settled_row statements place row =
    record {
      order = row.order;
      first = row.first;
      last = row.last;
      outcome = settled_outcome row.order row.outcome (declined_at statements place);
      approval = row.approval;
      time = row.time;
      card = card_at statements place;
    }

-- the first row has this place
abbrev pub settled_from : List Statement → (place : ℕ) → List OrderRow → List OrderRow
settled_from statements place [] = []
settled_from statements place (row ∷ rows) = settled_row statements place row ∷ settled_from statements (place + 1) rows

-- a day, after what was stated about its orders
abbrev pub settled : List Statement → DayValue → DayValue
settled statements day = record { book = day.book; unclear = day.unclear; orders = settled_from statements 0 day.orders }

-- ---- rows worked by hand

abbrev a_row : Sent → Cause → OrderRow
a_row order cause = record { order = order; first = 1; last = 2; outcome = Unclear cause; approval = None; time = None; card = None }

abbrev a_statement : Bool → Statement
a_statement declines = record { declines = declines; total = Some 500; totals = None; card = None; undoing = None }

-- without a result code, and without a connection
one_closed : settled_from (a_statement false ∷ a_statement false ∷ a_statement true ∷ a_statement false ∷ []) 0
    (a_row CloseDay Conflict ∷ a_row CloseDay Line ∷ a_row CloseDay Conflict ∷ a_row (Pay 500) Conflict ∷ [])
    ≡ record { order = CloseDay; first = 1; last = 2; outcome = DayClosed; approval = None; time = None; card = None } ∷ a_row CloseDay Line ∷ a_row CloseDay Conflict ∷ a_row (Pay 500) Conflict ∷ []
one_closed = refl
