-- The till as a small state machine: its state after each event on its line.
use Rattle.std.specs.Prelude.{ℕ, ◌==◌, Bool, true, false, cond, List, [], ◌∷◌, ◌++◌, Option, Some, None, fold, slice_get, slice_set, option_map}
use Rattle.zvt_till.specs.declared.happenings.Happening.{Happening}
use Rattle.zvt_till.specs.declared.happenings.Happening.TheVariants.{Connected, Sent as SentOut, Heard as HeardIn, Malformed, Lost}
use Rattle.zvt_till.specs.declared.orders.Order.{Order}
use Rattle.zvt_till.specs.declared.orders.Order.TheVariants.{Register as RegisterOrder, Pay as PayOrder, Reverse as ReverseOrder, CloseDay as CloseDayOrder, Cancel as CancelOrder}
use Rattle.zvt_till.specs.declared.messages.Heard.{Heard}
use Rattle.zvt_till.specs.declared.statuses.Running.{Running}
use Rattle.zvt_till.specs.declared.statuses.Statuses.TheVariants.{Nothing}
use Rattle.zvt_till.specs.declared.entries.Doubt.{Doubt}
use Rattle.zvt_till.specs.declared.entries.Doubt.TheVariants.{No, Unclear as UnclearReversal, TakenBack}
use Rattle.zvt_till.specs.declared.entries.Entry.{Entry}
use Rattle.zvt_till.specs.declared.outcomes.Cause.{Cause}
use Rattle.zvt_till.specs.declared.outcomes.Outcome.{Outcome}
use Rattle.zvt_till.specs.declared.outcomes.Outcome.TheVariants.{Registered, Paid, Declined, Refused, Aborted, Unclear, Reversed, DayClosed}
use Rattle.zvt_till.specs.Doubts.{already_reversed}
use Rattle.zvt_till.specs.Segments.{ends}
use Rattle.zvt_till.specs.Outcomes.{demand_of, outcome_by, listened}
use Rattle.zvt_till.specs.Refusals.{Awaited, Facts, sent_as, order_in}
use Rattle.zvt_till.specs.Sending.{Settings}

pub record TillState : Type 0 where
  pub settings : Settings
  pub line_up : Bool
  pub registered : Bool
  pub running : Option Running
  pub book : List Entry
  pub unclear : List (ℕ × Cause)
  pub last_outcome : Option Outcome

-- the line is down, the till is not registered, and the book is empty
abbrev pub new_till : Settings → TillState
new_till settings = record { settings = settings; line_up = false; registered = false; running = None; book = []; unclear = []; last_outcome = None }

-- the doubt that a refusal or an abort with this code leaves
abbrev pub told_by : ℕ → Doubt → Doubt
told_by code before = cond (code == already_reversed) TakenBack before

-- the entry after a reversal of it with this outcome
abbrev pub entry_after : Entry → Outcome → Entry
entry_after row Registered = row
entry_after row (Paid t receipt) = row
entry_after row (Declined code) = row
entry_after row (Refused code) = record row { doubt = told_by code row.doubt }
entry_after row (Aborted code) = record row { doubt = told_by code row.doubt }
entry_after row (Unclear cause) = record row { doubt = UnclearReversal cause }
entry_after row Reversed = record row { reversed = true; doubt = No }
entry_after row DayClosed = row

-- a reversal of the entry at this index had this outcome
abbrev pub reversal_ended : List Entry → ℕ → Outcome → List Entry
reversal_ended book e outcome = elim (slice_get book e) [ None ↦ book | Some row ↦ slice_set book e (entry_after row outcome) ]

-- the book after an order with this outcome
abbrev pub book_after : List Entry → Order → Outcome → List Entry
book_after book (PayOrder a) (Paid t receipt) = book ++ record { amount = a; trace = t; receipt = receipt; reversed = false; doubt = No } ∷ []
book_after book (ReverseOrder e) outcome = reversal_ended book e outcome
book_after book _ _ = book

-- the list of unclear payments: of other orders nothing is stored
abbrev pub unclear_after : List (ℕ × Cause) → Order → Outcome → List (ℕ × Cause)
unclear_after rows (PayOrder a) (Unclear cause) = rows ++ (a, cause) ∷ []
unclear_after rows _ _ = rows

-- a payment of this amount had this outcome
abbrev pub payment_ended : TillState → ℕ → Outcome → TillState
payment_ended s amount outcome = record s { book = book_after s.book (PayOrder amount) outcome; unclear = unclear_after s.unclear (PayOrder amount) outcome }

abbrev pub registered_after_outcome : Bool → Outcome → Bool
registered_after_outcome before Registered = true
registered_after_outcome before _ = before

-- the running order ends
abbrev pub finish : TillState → Order → Outcome → TillState
finish s order outcome =
    record {
      settings = s.settings;
      line_up = s.line_up;
      registered = registered_after_outcome s.registered outcome;
      running = None;
      book = book_after s.book order outcome;
      unclear = unclear_after s.unclear order outcome;
      last_outcome = Some outcome;
    }

abbrev pub meet_running : TillState → Running → Happening → TillState
meet_running s r h =
    cond (ends r.positive h)
    (finish s r.order (outcome_by s.book r.order r.statuses h))
    (record s { running = Some (listened (demand_of s.settings.rules (Some s.settings.currency) s.book s.unclear r.order) r h) })

-- the effect of an event on the running order: it ends, or it continues
abbrev pub meet : TillState → Happening → TillState
meet s h = elim s.running [ None ↦ s | Some r ↦ meet_running s r h ]

-- no till is registered on a line that is down
abbrev pub line_down : TillState → TillState
line_down s = record s { line_up = false; registered = false }

abbrev pub fresh : Order → Running
fresh o = record { order = o; positive = false; statuses = Nothing }

-- an accepted order
abbrev pub accept : TillState → Order → TillState
accept s RegisterOrder = record s { registered = false; running = Some (fresh RegisterOrder) }
accept s (PayOrder a) = record s { running = Some (fresh (PayOrder a)) }
accept s (ReverseOrder e) = record s { running = Some (fresh (ReverseOrder e)) }
accept s CloseDayOrder = record s { running = Some (fresh CloseDayOrder) }
accept s CancelOrder = s

abbrev pub heard_step : TillState → Heard → TillState
heard_step s m = cond s.line_up (meet s (HeardIn m)) s

-- one event on the line; a till never sends an order that is not its own
abbrev pub step : TillState → Happening → TillState
step s Connected = record s { line_up = true }
step s (SentOut o) = elim (order_in o) [ None ↦ s | Some order ↦ accept s order ]
step s (HeardIn m) = heard_step s m
step s Malformed = line_down (meet s Malformed)
step s Lost = line_down (meet s Lost)

abbrev pub state_after : Settings → List Happening → TillState
state_after settings log = fold step (new_till settings) log

-- the outcome of the running order, if this event ends it
abbrev pub outcome_at : TillState → Happening → Option Outcome
outcome_at s h =
    elim s.running [
      | None ↦ None
      | Some r ↦ cond (ends r.positive h) (Some (outcome_by s.book r.order r.statuses h)) None
    ]

abbrev pub awaited_by : ℕ → Running → Awaited
awaited_by own r = record { order = sent_as own r.order; positive = r.positive }

abbrev pub facts_of : TillState → Facts
facts_of s =
    record {
      line_up = s.line_up;
      registered = s.registered;
      awaited = option_map (awaited_by s.settings.currency) s.running;
      book = s.book;
      unclear = s.unclear;
    }
