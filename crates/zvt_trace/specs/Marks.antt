-- Moments, and the time marks of a trace.
use Rattle.std.specs.Prelude.{◌≡◌, true, false, ℕ, ◌+◌, ◌-◌, ◌*◌, ◌/◌, ◌%◌, ◌==◌, ◌&&◌, ◌||◌, not, nat_lt, Bool, if◌then◌else◌, List, [], ◌∷◌, ◌++◌, codes, length, take, get_or, Option, None, Some}
use Rattle.std.specs.Char.{is_ascii_digit}
use Rattle.std.specs.Int.{is_in_range}
use Rattle.zvt_text.specs.Words.{fits}
use Rattle.zvt_trace.specs.declared.moment.Moment.{Moment}

-- ---- the calendar

-- every fourth year, but of the centuries only every fourth
abbrev pub is_leap_year : ℕ → Bool
is_leap_year year = (year % 4 == 0) && (not (year % 100 == 0) || (year % 400 == 0))

-- thirty days have September, April, June and November
abbrev pub days_in_month : (year month : ℕ) → ℕ
days_in_month year month =
    if month == 2 then (if is_leap_year year then 29 else 28)
    else (if (month == 4) || (month == 6) || (month == 9) || (month == 11) then 30 else 31)

-- the calendar has the date, in a year of four digits, and a clock shows the time; there are no leap seconds
abbrev pub is_real : Moment → Bool
is_real m =
    nat_lt m.year 10_000 && is_in_range 1 12 m.month && is_in_range 1 (days_in_month m.year m.month) m.day
    && nat_lt m.hour 24 && nat_lt m.minute 60 && nat_lt m.second 60 && nat_lt m.nanosecond 1_000_000_000

abbrev pub if_real : Moment → Option Moment
if_real m = if is_real m then Some m else None

abbrev pub moment : (year month day hour minute second nanosecond : ℕ) → Moment
moment year month day hour minute second nanosecond =
    record { year = year; month = month; day = day; hour = hour; minute = minute; second = second; nanosecond = nanosecond }

-- ---- the form of a mark

-- the longest mark without its `Z`; a shorter one leaves out the last digits, or all of them with their dot
abbrev pub mark_form : List ℕ
mark_form = codes "#@ 0000-00-00T00:00:00.000000000"

-- no fraction, or a dot and 1 to 9 digits
abbrev pub is_mark_size : ℕ → Bool
is_mark_size size = (size == 23) || is_in_range 25 33 size

abbrev pub has_form : (line : List ℕ) → Bool
has_form line =
    is_mark_size (length line) && (get_or line (length line - 1) 0 == 90)
    && fits (take (length line - 1) mark_form) (take (length line - 1) line)

-- ---- the moment of a mark

-- the digit at this place of a line, and 0 where there is none
abbrev pub digit : ℕ → ℕ
digit byte = if is_ascii_digit byte then byte - 48 else 0

abbrev pub digit_at : (line : List ℕ) (place : ℕ) → ℕ
digit_at line place = digit (get_or line place 0)

abbrev pub two_at : (line : List ℕ) (place : ℕ) → ℕ
two_at line place = digit_at line place * 10 + digit_at line (place + 1)

abbrev pub three_at : (line : List ℕ) (place : ℕ) → ℕ
three_at line place = digit_at line place * 100 + two_at line (place + 1)

-- digits that a fraction leaves out are 0
abbrev pub moment_in : (line : List ℕ) → Moment
moment_in line =
    moment (two_at line 3 * 100 + two_at line 5) (two_at line 8) (two_at line 11) (two_at line 14) (two_at line 17) (two_at line 20)
    (three_at line 23 * 1_000_000 + three_at line 26 * 1_000 + three_at line 29)

-- the moment of a line that is a mark
abbrev pub mark_of : (line : List ℕ) → Option Moment
mark_of line = if has_form line then if_real (moment_in line) else None

-- ---- writing

abbrev pub two_digits : ℕ → List ℕ
two_digits n = (48 + n / 10 % 10) ∷ (48 + n % 10) ∷ []

abbrev pub three_digits : ℕ → List ℕ
three_digits n = (48 + n / 100 % 10) ∷ (48 + n / 10 % 10) ∷ (48 + n % 10) ∷ []

abbrev pub date_text : Moment → List ℕ
date_text m = two_digits (m.year / 100) ++ two_digits (m.year % 100) ++ codes "-" ++ two_digits m.month ++ codes "-" ++ two_digits m.day

abbrev pub clock_text : Moment → List ℕ
clock_text m = two_digits m.hour ++ codes ":" ++ two_digits m.minute ++ codes ":" ++ two_digits m.second

-- milliseconds, and what is finer only where there is something
abbrev pub fraction_text : (nanosecond : ℕ) → List ℕ
fraction_text n =
    if n % 1_000_000 == 0 then three_digits (n / 1_000_000)
    else three_digits (n / 1_000_000) ++ three_digits (n / 1_000) ++ three_digits n

-- `2026-11-28T09:14:03.250Z`
abbrev pub moment_text : Moment → List ℕ
moment_text m = date_text m ++ codes "T" ++ clock_text m ++ codes "." ++ fraction_text m.nanosecond ++ codes "Z"

abbrev pub mark_text : Moment → List ℕ
mark_text m = codes "#@ " ++ moment_text m

-- A mark that is written is read as its moment.
abbrev pub MarksReadBack : Type 0
MarksReadBack = (m : Moment) → is_real m ≡ true → mark_of (mark_text m) ≡ Some m

-- ---- worked rows

abbrev pub MarkRows : Type 0
MarkRows =
    (mark_of (codes "#@ 2026-11-28T09:14:03.250Z") ≡ Some (moment 2026 11 28 9 14 3 250_000_000)) ×
    (mark_of (codes "#@ 2026-11-28T09:14:03Z") ≡ Some (moment 2026 11 28 9 14 3 0)) ×
    (mark_of (codes "#@ 2026-11-28T09:14:03.000000001Z") ≡ Some (moment 2026 11 28 9 14 3 1)) ×
    (mark_of (codes "#@ 2026-11-28T09:14:03.0000000001Z") ≡ None) ×
    (mark_of (codes "#@ 2026-11-28T09:14:03.Z") ≡ None) ×
    (mark_of (codes "#@ 2026-11-28T09:14:03.250") ≡ None) ×
    (mark_of (codes "#@ 2026-11-28T09:14:03.250Z ") ≡ None) ×
    (mark_of (codes "#@2026-11-28T09:14:03.250Z") ≡ None) ×
    (mark_of (codes "#@ 2026-11-28 09:14:03Z") ≡ None) ×
    (mark_of (codes "#@ 2026-11-28T09:14:03+01:00") ≡ None) ×
    (mark_of (codes "#@ 2026-11-28T24:00:00Z") ≡ None) ×
    (mark_of (codes "#@ 2026-11-28T09:14:60Z") ≡ None) ×
    (mark_of (codes "#@ 2026-02-30T00:00:00Z") ≡ None) ×
    (mark_of (codes "#@ 2026-02-29T00:00:00Z") ≡ None) ×
    (mark_of (codes "#@ 2028-02-29T00:00:00Z") ≡ Some (moment 2028 2 29 0 0 0 0)) ×
    (mark_of (codes "#@ 2100-02-29T00:00:00Z") ≡ None) ×
    (mark_of (codes "#@ 2000-02-29T00:00:00Z") ≡ Some (moment 2000 2 29 0 0 0 0)) ×
    (mark_of (codes "#@ 2026-11-31T00:00:00Z") ≡ None) ×
    (mark_of (codes "#@ 2026-00-01T00:00:00Z") ≡ None) ×
    (mark_text (moment 2026 11 28 9 14 3 250_000_000) ≡ codes "#@ 2026-11-28T09:14:03.250Z") ×
    (mark_text (moment 2026 11 28 9 14 3 250_000_001) ≡ codes "#@ 2026-11-28T09:14:03.250000001Z")
