-- Zones, and the moments that their clocks show.
use Rattle.std.specs.Prelude.{◌≡◌, true, false, ℕ, ◌+◌, ◌-◌, ◌*◌, ◌/◌, ◌%◌, ◌==◌, ◌&&◌, ◌||◌, nat_lt, nat_le, Bool, if◌then◌else◌, List, [], ◌∷◌, ◌++◌, codes, Option, None, Some, refl}
use Rattle.std.specs.Char.{is_ascii_digit}
use Rattle.std.specs.List.{list_all}
use Rattle.zvt_trace.specs.Marks.{is_real, moment, two_digits}
use Rattle.zvt_trace.specs.declared.moment.Moment.{Moment}
use Rattle.zvt_report.specs.declared.zones.Zone.{Zone}

-- ---- zones

abbrev pub zone : (west : Bool) → (minutes : ℕ) → Zone
zone west minutes = record { west = west; minutes = minutes }

abbrev pub utc : Zone
utc = zone false 0

abbrev pub two : (tens ones : ℕ) → ℕ
two tens ones = (tens - 48) * 10 + (ones - 48)

-- whole hours and minutes, at most fourteen hours
abbrev pub near : (hours minutes : ℕ) → Bool
near hours minutes = nat_lt minutes 60 && nat_le (hours * 60 + minutes) 840

abbrev pub zone_in : (west : Bool) → (hours minutes : ℕ) → Option Zone
zone_in west hours minutes = if near hours minutes then Some (zone west (hours * 60 + minutes)) else None

-- `+01:00`, `-03:30`
abbrev pub zone_of : (text : List ℕ) → Option Zone
zone_of (sign ∷ a ∷ b ∷ colon ∷ c ∷ d ∷ []) =
    if ((sign == 43) || (sign == 45)) && (colon == 58) && list_all is_ascii_digit (a ∷ b ∷ c ∷ d ∷ []) then zone_in (sign == 45) (two a b) (two c d)
    else None
zone_of _ = None

-- ---- days

abbrev pub on_date : (year month day : ℕ) → Moment → Moment
on_date year month day m = moment year month day m.hour m.minute m.second m.nanosecond

-- years have four digits
abbrev pub year_after : ℕ → ℕ
year_after year = if nat_lt year 9999 then year + 1 else year

abbrev pub month_after : Moment → Moment
month_after m = if nat_lt m.month 12 then on_date m.year (m.month + 1) 1 m else on_date (year_after m.year) 1 1 m

abbrev pub real_or : Moment → Moment → Moment
real_or m other = if is_real m then m else other

-- the calendar has the next day in this month, or it is the first of the next month
abbrev pub day_after : Moment → Moment
day_after m = if nat_lt m.day 31 then real_or (on_date m.year m.month (m.day + 1) m) (month_after m) else month_after m

-- the last day that the calendar has in a month
abbrev pub month_end : (year month : ℕ) → Moment → Moment
month_end year month m =
    real_or (on_date year month 31 m) (real_or (on_date year month 30 m) (real_or (on_date year month 29 m) (on_date year month 28 m)))

abbrev pub month_before : Moment → Moment
month_before m = if nat_lt 1 m.month then month_end m.year (m.month - 1) m else month_end (m.year - 1) 12 m

abbrev pub day_before : Moment → Moment
day_before m = if nat_lt 1 m.day then on_date m.year m.month (m.day - 1) m else month_before m

-- the day before, the same day, or the day after
abbrev pub on_day : (days : ℕ) → Moment → Moment
on_day days m = if days == 0 then day_before m else (if days == 1 then m else day_after m)

-- ---- the clock of a zone

-- the minutes since the day before began
abbrev pub minutes_in : Zone → Moment → ℕ
minutes_in z m = if z.west then 1440 + m.hour * 60 + m.minute - z.minutes else 1440 + m.hour * 60 + m.minute + z.minutes

abbrev pub at_minute : (minute : ℕ) → Moment → Moment
at_minute minute m = moment m.year m.month m.day (minute / 60 % 24) (minute % 60) m.second m.nanosecond

-- what a clock of the zone shows at a moment in UTC
abbrev pub shown_in : Zone → Moment → Moment
shown_in z m = at_minute (minutes_in z m) (on_day (minutes_in z m / 1440) m)

-- ---- text

abbrev pub sign_of : (west : Bool) → List ℕ
sign_of true = codes "-"
sign_of false = codes "+"

-- `UTC`, `UTC+01:00`
unfoldable pub zone_text : Zone → List ℕ
zone_text z =
    if z.minutes == 0 then codes "UTC"
    else codes "UTC" ++ sign_of z.west ++ two_digits (z.minutes / 60) ++ codes ":" ++ two_digits (z.minutes % 60)

-- ---- worked rows

zones_read : (zone_of (codes "+01:00") ≡ Some (zone false 60)) × (zone_of (codes "-03:30") ≡ Some (zone true 210)) × (zone_of (codes "+14:00") ≡ Some (zone false 840))
zones_read = (refl, refl, refl)

no_zones : (zone_of (codes "+14:01") ≡ None) × (zone_of (codes "+01:60") ≡ None) × (zone_of (codes "01:00") ≡ None) × (zone_of (codes "+1:00") ≡ None)
    × (zone_of (codes "+01:00 ") ≡ None) × (zone_of (codes "+0a:00") ≡ None)
no_zones = (refl, refl, refl, refl, refl, refl)

zones_written : (zone_text (zone false 60) ≡ codes "UTC+01:00") × (zone_text (zone true 210) ≡ codes "UTC-03:30") × (zone_text utc ≡ codes "UTC")
unfolding zone_text
zones_written = (refl, refl, refl)

clocks : (shown_in (zone false 60) (moment 2026 11 28 7 1 12 0) ≡ moment 2026 11 28 8 1 12 0)
    × (shown_in (zone false 60) (moment 2026 12 31 23 30 0 5) ≡ moment 2027 1 1 0 30 0 5)
    × (shown_in (zone false 120) (moment 2028 2 28 22 0 0 0) ≡ moment 2028 2 29 0 0 0 0)
    × (shown_in (zone false 120) (moment 2027 2 28 22 0 0 0) ≡ moment 2027 3 1 0 0 0 0)
    × (shown_in (zone true 210) (moment 2026 3 1 3 29 59 0) ≡ moment 2026 2 28 23 59 59 0)
    × (shown_in (zone true 60) (moment 2026 1 1 0 0 0 0) ≡ moment 2025 12 31 23 0 0 0)
    × (shown_in utc (moment 2026 11 28 23 59 59 0) ≡ moment 2026 11 28 23 59 59 0)
clocks = (refl, refl, refl, refl, refl, refl, refl)
