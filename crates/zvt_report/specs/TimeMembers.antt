-- What the objects of a report say about times.
use Rattle.std.specs.Prelude.{◌≡◌, ℕ, Option, Some, None, option_map, refl}
use Rattle.zvt_trace.specs.declared.moment.Moment.{Moment}
use Rattle.zvt_report.specs.declared.members.Member.{Member}
use Rattle.zvt_report.specs.declared.members.Name.{Name}
use Rattle.zvt_report.specs.declared.members.Name.TheVariants as name
use Rattle.zvt_report.specs.declared.members.Value.TheVariants as value
use Rattle.zvt_report.specs.declared.times.Times.{Times}

abbrev pub moment_member : Name → Moment → Member
moment_member n time = record { name = n; value = value.Moment time }

-- the moment at which an order was sent
abbrev pub maybe_time : Option Moment → Option Member
maybe_time time = option_map (moment_member name.Time) time

-- the moments of the first and of the last line
abbrev pub from_member : Option (Moment × Moment) → Option Member
from_member span = option_map (λ (between : Moment × Moment). moment_member name.TimeFrom between.0) span

abbrev pub to_member : Option (Moment × Moment) → Option Member
to_member span = option_map (λ (between : Moment × Moment). moment_member name.TimeTo between.1) span

-- the line at which the clock went back
abbrev pub back_member : Option ℕ → Option Member
back_member line = option_map (λ (l : ℕ). record { name = name.TimesBack; value = value.Count l }) line

-- the number of bad marks, if there is one
abbrev pub bad_member : (bad : ℕ) → (first : Option ℕ) → Option Member
bad_member bad first = option_map (λ (line : ℕ). record { name = name.TimesBad; value = value.Count bad }) first
