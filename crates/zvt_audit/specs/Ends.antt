-- The lines of a trace at which its payments ended.
use Rattle.std.specs.Prelude.{◌≡◌, ℕ, ◌-◌, ◌<◌, ◌≤◌, Bool, true, false, cond, nat_lt, List, [], ◌∷◌, ◌++◌, length, Some}
use Rattle.std.specs.List.{slice_get}
use Rattle.zvt_apdu.specs.declared.kinds.Kind.{Kind}
use Rattle.zvt_apdu.specs.declared.kinds.Kind.TheVariants as kind
use Rattle.zvt_till.specs.Books.{books}
use Rattle.zvt_till.specs.Judging.{BooksSoFar, ends_open}
use Rattle.zvt_till.specs.Segments.{segments}
use Rattle.zvt_till.specs.declared.happenings.Happening.{Happening}
use Rattle.zvt_trace.specs.TraceEvent.{At}
use Rattle.zvt_audit.specs.Happened.{log_of}
use Rattle.zvt_audit.specs.declared.ends.Ends.{Ends}

-- how many payments of a log were completed
abbrev pub booked_count : List Happening → ℕ
booked_count log = length (books log).booked

-- how many that have ended are unclear: all but one that runs at the log's end
abbrev pub unclear_count : List Happening → ℕ
unclear_count log = length (books log).unclear - cond (ends_open (segments log)) 1 0

-- With an event of this line the count of rows first exceeds the place of that row, which is counted from 0.
-- The count of no prefix of the events before it exceeds that place.
pub record EndsAt (count : List Happening → ℕ) (events : List At) (row line : ℕ) : Type 0 where
  pub before : List At
  pub event : At
  pub later : List At
  pub is : events ≡ before ++ event ∷ later
  pub first : (some rest : List At) → before ≡ some ++ rest → count (log_of some) ≤ row
  pub then : row < count (log_of (before ++ event ∷ []))
  pub at_line : line ≡ event.line

-- each row that has ended has the line at which it ended
pub record AreEndsOf (count : List Happening → ℕ) (events : List At) (lines : List ℕ) : Type 0 where
  pub all : length lines ≡ count (log_of events)
  pub each : (row line : ℕ) → slice_get lines row ≡ Some line → EndsAt count events row line

-- the lines of the payments that were completed, and of those that ended unclear
pub record Lines : Type 0 where
  pub booked : List ℕ
  pub unclear : List ℕ

pub record AreEndLines (events : List At) (lines : Lines) : Type 0 where
  pub booked : AreEndsOf booked_count events lines.booked
  pub unclear : AreEndsOf unclear_count events lines.unclear

-- ---- what is noticed so far

abbrev pub lines_of : Ends → Lines
lines_of ends = record { booked = ends.booked.items; unclear = ends.unclear.items }

-- one more line where there are more rows
abbrev pub with_end : List ℕ → (rows line : ℕ) → List ℕ
with_end lines rows line = cond (nat_lt (length lines) rows) (lines ++ line ∷ []) lines

abbrev pub with_ends : Lines → BooksSoFar → (line : ℕ) → Lines
with_ends lines so_far line =
    record { booked = with_end lines.booked (length so_far.books.booked) line; unclear = with_end lines.unclear (length so_far.books.unclear) line }

-- a message of the terminal of this kind may end a payment
abbrev pub can_end : Kind → Bool
can_end kind.Ack = false
can_end kind.Nack = true
can_end kind.Registration = true
can_end kind.Authorisation = true
can_end kind.Reversal = true
can_end kind.EndOfDay = true
can_end kind.AbortOrder = true
can_end kind.Status = false
can_end kind.Intermediate = false
can_end kind.PrintLine = false
can_end kind.TextBlock = false
can_end kind.Completion = true
can_end kind.Abort = true
can_end kind.Other = true
