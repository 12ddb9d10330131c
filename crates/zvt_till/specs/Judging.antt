-- The knowledge about a log that is judged from the left.
use Rattle.std.specs.Prelude.{◌≡◌, ℕ, Bool, true, false, List, [], ◌∷◌, ◌++◌, Option, Some, None, map, fold}
use Rattle.std.specs.List.{list_any}
use Rattle.zvt_till.specs.declared.happenings.Happening.{Happening}
use Rattle.zvt_till.specs.declared.happenings.Sent.{Sent}
use Rattle.zvt_till.specs.declared.happenings.Sent.TheVariants.{Register, Pay, Reverse, CloseDay, Cancel, Foreign}
use Rattle.zvt_till.specs.declared.entries.Doubt.TheVariants.{No}
use Rattle.zvt_till.specs.declared.entries.Entry.{Entry}
use Rattle.zvt_till.specs.declared.outcomes.Outcome.{Outcome}
use Rattle.zvt_till.specs.declared.outcomes.Outcome.TheVariants.{Registered, Paid, Declined, Refused, Aborted, Unclear, Reversed, DayClosed}
use Rattle.zvt_till.specs.declared.statuses.Statuses.TheVariants.{Nothing}
use Rattle.zvt_till.specs.declared.log_books.Booked.{Booked as BookedRow}
use Rattle.zvt_till.specs.declared.log_books.Books.{Books as BooksFound}
use Rattle.zvt_till.specs.declared.log_books.OpenPayment.{OpenPayment}
use Rattle.zvt_till.specs.Statuses.{Demand, Payment}
use Rattle.zvt_till.specs.Segments.{Segment, Ended, in_force, segments, is_positive, end_of, statuses}
use Rattle.zvt_till.specs.Books.{Booked, booked_as, Books, books_of}
use Rattle.zvt_till.specs.Marks.{entry_of}
use Rattle.zvt_till.specs.UsedTraces.{AreTracesOf}
use Rattle.zvt_till.specs.Outcomes.{charged, note}

-- rows as the definitions of a log's books see them

abbrev pub row_value : BookedRow → Booked
row_value row = booked_as row.amount row.trace row.receipt

abbrev pub rows_value : List BookedRow → List Booked
rows_value rows = map row_value rows

abbrev pub books_value : BooksFound → Books
books_value found = record { booked = rows_value found.booked.items; unclear = found.unclear.items }

-- rows as a book without reversals
abbrev pub as_book : List Booked → List Entry
as_book rows = map (entry_of false No) rows

-- the used trace numbers are the numbers of the rows
abbrev pub KnowsTraces : BooksFound → Type 0
KnowsTraces found = AreTracesOf found.used (as_book (rows_value found.booked.items))

-- the rows that a payment with this outcome adds
abbrev pub written : Books → ℕ → Outcome → Books
written b amount Registered = b
written b amount (Paid trace receipt) = record { booked = b.booked ++ booked_as amount trace receipt ∷ []; unclear = b.unclear }
written b amount (Declined code) = b
written b amount (Refused code) = b
written b amount (Aborted code) = b
written b amount (Unclear cause) = record { booked = b.booked; unclear = b.unclear ++ (amount, cause) ∷ [] }
written b amount Reversed = b
written b amount DayClosed = b

-- the values with which the statuses of a payment must agree
abbrev pub paying : Option ℕ → ℕ → Option Demand
paying currency amount = Some (Payment (charged currency amount))

-- the order is a payment without an end
abbrev pub is_open_as : Sent → Option Ended → Bool
is_open_as (Register c) end = false
is_open_as (Pay a) None = true
is_open_as (Pay a) (Some e) = false
is_open_as (Reverse e) end = false
is_open_as CloseDay end = false
is_open_as Cancel end = false
is_open_as Foreign end = false

abbrev pub open_after : Bool → Segment → Bool
open_after before s = is_open_as s.opening.order (end_of s.answers)

-- the last order is a payment without an end
abbrev pub ends_open : List Segment → Bool
ends_open ss = fold open_after false ss

-- the last segment is this payment, and everything before it is in the books
pub record Runs (ss : List Segment) (b : Books) (p : OpenPayment) : Type 0 where
  pub closed : List Segment
  pub answers : List Happening
  pub is : ss ≡ closed ++ record { opening = record { order = Pay p.amount; currency = p.currency; sole = None }; answers = answers } ∷ []
  pub earlier : b ≡ books_of closed
  pub unended : end_of answers ≡ None
  pub positive : p.positive ≡ list_any is_positive answers
  pub noted : p.statuses ≡ fold (note (paying p.currency p.amount)) Nothing (statuses answers)

-- no payment is running, and the books contain all segments
pub record Rests (ss : List Segment) (b : Books) : Type 0 where
  pub all : b ≡ books_of ss
  pub ended : ends_open ss ≡ false

-- the books of a log without the payment that is running at its end
abbrev pub IsJudged : List Happening → Books → Option OpenPayment → Type 0
IsJudged log b None = Rests (segments log) b
IsJudged log b (Some p) = Runs (segments log) b p

-- books that go on, the payment that runs, and the currency in force
pub record BooksSoFar : Type 0 where
  pub books : Books
  pub running : Option OpenPayment
  pub currency : Option ℕ

-- these are the books of this log, without the payment that is running at its end
abbrev pub HasJudged : List Happening → BooksSoFar → Type 0
HasJudged log b = IsJudged log b.books b.running × (b.currency ≡ in_force log)

-- the payment that an order begins under a currency in force
abbrev pub opened : Option ℕ → Sent → Option OpenPayment
opened currency (Register c) = None
opened currency (Pay a) = Some (record { amount = a; currency = currency; positive = false; statuses = Nothing })
opened currency (Reverse e) = None
opened currency CloseDay = None
opened currency Cancel = None
opened currency Foreign = None
