-- The moments of a trace's time marks.
use Rattle.std.specs.Prelude.{◌≡◌, ◌*◌, ◌/◌, ℕ, ℤ, pos, negsuc, Option, None, Some}
use Rattle.jiff_core.specs.DateTime.{civil_nanos}
use Rattle.jiff_core.specs.declared.civil.date.Date.{Date}
use Rattle.jiff_core.specs.declared.civil.datetime.DateTime.{DateTime}
use Rattle.jiff_core.specs.declared.civil.time.Time.{Time}
use Rattle.zvt_trace.specs.Marks.{if_real, moment}
use Rattle.zvt_trace.specs.declared.moment.Moment.{Moment}

-- that many nanoseconds without what is finer than a millisecond
abbrev pub whole_milliseconds : ℕ → ℕ
whole_milliseconds nanoseconds = nanoseconds / 1_000_000 * 1_000_000

-- the moment in this year; there is none before the year 0
abbrev pub moment_in_year : (year : ℤ) → Date → Time → Option Moment
moment_in_year (pos year) date time =
    if_real (moment year date.month date.day time.hour time.minute time.second (whole_milliseconds time.subsec_nanosecond))
moment_in_year (negsuc n) date time = None

-- the moment that a clock shows, to the millisecond
abbrev pub moment_shown : DateTime → Option Moment
moment_shown clock = moment_in_year clock.date.year clock.date clock.time

-- the moment that a clock in UTC shows at this instant, which is in nanoseconds since 1970
abbrev pub ShowsAt : (nanoseconds : ℤ) → Option Moment → Type 0
ShowsAt nanoseconds shown = (clock : DateTime) × (civil_nanos clock ≡ nanoseconds) × (shown ≡ moment_shown clock)
