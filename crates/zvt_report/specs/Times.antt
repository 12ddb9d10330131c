-- What the time marks of a trace say about a day.
use Rattle.std.specs.Prelude.{◌≡◌, ℕ, ◌==◌, ◌&&◌, Bool, false, cond, List, [], ◌∷◌, ◌++◌, codes, length, Option, Some, None, is_some, option_map, refl}
use Rattle.std.specs.Fmt.{decimal, digits}
use Rattle.std.specs.List.{list_any}
use Rattle.zvt_till.specs.declared.happenings.Sent.TheVariants.{CloseDay}
use Rattle.zvt_till.specs.declared.outcomes.Outcome.TheVariants.{DayClosed}
use Rattle.zvt_trace.specs.Marks.{clock_text, date_text, moment, moment_text}
use Rattle.zvt_trace.specs.Moments.{bad_marks_of, time_at, timed, times_of, went_back}
use Rattle.zvt_trace.specs.declared.moment.Moment.{Moment}
use Rattle.zvt_trace.specs.declared.moments.Timed.{Timed}
use Rattle.zvt_report.specs.Amounts.{count_text}
use Rattle.zvt_report.specs.Day.{DayValue}
use Rattle.zvt_report.specs.Zones.{shown_in, utc, zone, zone_text}
use Rattle.zvt_report.specs.declared.rows.OrderRow.{OrderRow}
use Rattle.zvt_report.specs.declared.times.Times.{Times}
use Rattle.zvt_report.specs.declared.zones.Zone.{Zone}

-- ---- the times of a trace

abbrev pub last_of : Timed → List Timed → Timed
last_of before [] = before
last_of before (next ∷ later) = last_of next later

-- the moments of the first and of the last line that has one, on the clock of the zone
abbrev pub span_of : Zone → List Timed → Option (Moment × Moment)
span_of z [] = None
span_of z (first ∷ later) = Some (shown_in z first.moment, shown_in z (last_of first later).moment)

abbrev pub first_line : List ℕ → Option ℕ
first_line [] = None
first_line (line ∷ lines) = Some line

abbrev pub times_in : Zone → List Timed → (bad : List ℕ) → Times
times_in z times bad = record { zone = z; span = span_of z times; went_back = went_back times; bad = length bad; first_bad = first_line bad }

-- what the marks among these lines say
abbrev pub times_by : Zone → List (List ℕ) → Times
times_by z lines = times_in z (times_of lines) (bad_marks_of lines)

abbrev pub no_times : Times
no_times = times_in utc [] []

-- ---- the times of orders

-- a row with the moment of its first line
abbrev pub timed_row : Zone → List Timed → OrderRow → OrderRow
timed_row z times row =
    record {
      order = row.order;
      first = row.first;
      last = row.last;
      outcome = row.outcome;
      approval = row.approval;
      time = option_map (shown_in z) (time_at times row.first);
      card = row.card;
    }

abbrev pub timed_rows : Zone → List Timed → List OrderRow → List OrderRow
timed_rows z times [] = []
timed_rows z times (row ∷ rows) = timed_row z times row ∷ timed_rows z times rows

-- a day whose orders have their times
abbrev pub timed_day : Zone → List Timed → DayValue → DayValue
timed_day z times day = record { book = day.book; unclear = day.unclear; orders = timed_rows z times day.orders }

-- an order has a time
abbrev pub has_time : OrderRow → Bool
has_time row = is_some row.time

abbrev pub have_times : List OrderRow → Bool
have_times rows = list_any has_time rows

-- ---- text

-- the date of the second moment, unless it is the date of the first
abbrev pub later_date : (from to : Moment) → List ℕ
later_date from to = cond ((from.year == to.year) && (from.month == to.month) && (from.day == to.day)) [] (date_text to ++ 32 ∷ [])

unfoldable pub from_words : Moment → List ℕ
from_words from = date_text from ++ 32 ∷ clock_text from

unfoldable pub to_words : Zone → (from to : Moment) → List ℕ
to_words z from to = later_date from to ++ clock_text to ++ 32 ∷ zone_text z

-- `2026-11-28 08:01:12 to 18:30:05 UTC+01:00`
unfoldable pub span_words : Zone → (from to : Moment) → List ℕ
span_words z from to = from_words from ++ codes " to " ++ to_words z from to

abbrev pub back_line : (line : ℕ) → List ℕ
back_line line = codes "The clock of the time marks goes back at line " ++ decimal line ++ codes ".\n"

unfoldable pub back_note : Option ℕ → List ℕ
back_note None = []
back_note (Some line) = back_line line

abbrev pub bad_line : (bad line : ℕ) → List ℕ
bad_line bad line = count_text bad (codes "time mark") ++ codes " cannot be read: see line " ++ decimal line ++ codes ".\n"

unfoldable pub bad_note : (bad : ℕ) → (first : Option ℕ) → List ℕ
bad_note bad None = []
bad_note bad (Some line) = bad_line bad line

-- what is wrong with the marks
unfoldable pub clock_notes : Times → List ℕ
clock_notes times = back_note times.went_back ++ bad_note times.bad times.first_bad

-- the time of day in its column, and a dash if there is none
unfoldable pub time_column : Option Moment → List ℕ
time_column None = codes "  -       "
time_column (Some time) = codes "  " ++ clock_text time

-- the time of day before other words in a bracket
unfoldable pub time_first : Option Moment → List ℕ
time_first None = []
time_first (Some time) = clock_text time ++ codes ", "

-- ---- rows worked by hand

abbrev some_times : List Timed
some_times = timed 2 (moment 2026 11 28 7 1 12 40_000_000) ∷ timed 12 (moment 2026 11 28 23 10 5 0) ∷ []

one_day : span_words utc (moment 2026 11 28 7 1 12 0) (moment 2026 11 28 17 30 5 0) ≡ codes "2026-11-28 07:01:12 to 17:30:05 UTC"
unfolding from_words span_words to_words zone_text
one_day = refl

a_bad_mark : clock_notes (times_in utc some_times (99 ∷ [])) ≡ codes "1 time mark cannot be read: see line 99.\n"
unfolding back_note bad_note clock_notes count_text digits
a_bad_mark = refl

abbrev a_row : (first : ℕ) → (time : Option Moment) → OrderRow
a_row first time = record { order = CloseDay; first = first; last = 20; outcome = DayClosed; approval = None; time = time; card = None }

two_rows : timed_rows (zone false 60) some_times (a_row 3 None ∷ a_row 12 None ∷ []) ≡ a_row 3 None ∷ a_row 12 (Some (moment 2026 11 29 0 10 5 0)) ∷ []
two_rows = refl
