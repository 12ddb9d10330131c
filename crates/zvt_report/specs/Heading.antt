-- The first line of a report: the day, its hours, and the terminal.
use Rattle.std.specs.Prelude.{◌≡◌, ℕ, ◌||◌, Bool, false, cond, List, [], ◌∷◌, ◌++◌, codes, Option, Some, None, is_some, refl}
use Rattle.hex.specs.Hex.{encode_upper, encode_with}
use Rattle.zvt_trace.specs.Marks.{moment}
use Rattle.zvt_trace.specs.Moments.{timed}
use Rattle.zvt_trace.specs.declared.moment.Moment.{Moment}
use Rattle.zvt_trace.specs.declared.moments.Timed.{Timed}
use Rattle.zvt_report.specs.Times.{from_words, no_times, span_words, times_in, to_words}
use Rattle.zvt_report.specs.Zones.{zone, zone_text}
use Rattle.zvt_report.specs.declared.times.Times.{Times}
use Rattle.zvt_report.specs.declared.zones.Zone.{Zone}

-- the trace has times, or a terminal is named
abbrev pub has_head : Times → Option (List ℕ) → Bool
has_head times terminal = is_some times.span || is_some terminal

-- the terminal after other words
abbrev pub terminal_part : Option (List ℕ) → List ℕ
terminal_part None = []
terminal_part (Some id) = codes ", terminal " ++ encode_upper id

-- the terminal alone
abbrev pub terminal_alone : Option (List ℕ) → List ℕ
terminal_alone None = []
terminal_alone (Some id) = codes "Terminal " ++ encode_upper id

-- `2026-11-28 08:01:12 to 18:30:05 UTC+01:00, terminal 52500041`
abbrev pub head_by : Option (Moment × Moment) → Zone → Option (List ℕ) → List ℕ
head_by None z terminal = terminal_alone terminal
head_by (Some between) z terminal = span_words z between.0 between.1 ++ terminal_part terminal

unfoldable pub head_words : Times → Option (List ℕ) → List ℕ
head_words times terminal = head_by times.span times.zone terminal

-- a line of it, and an empty line
unfoldable pub head_part : Times → Option (List ℕ) → List ℕ
head_part times terminal = cond (has_head times terminal) (head_words times terminal ++ codes "\n\n") []

-- ---- rows worked by hand

abbrev some_times : List Timed
some_times = timed 2 (moment 2026 11 28 7 1 12 40_000_000) ∷ timed 12 (moment 2026 11 28 23 10 5 0) ∷ []

abbrev an_id : Option (List ℕ)
an_id = Some (0x52 ∷ 0x50 ∷ 0x00 ∷ 0x41 ∷ [])

a_day : head_part (times_in (zone false 60) some_times (99 ∷ [])) an_id ≡ codes "2026-11-28 08:01:12 to 2026-11-29 00:10:05 UTC+01:00, terminal 52500041\n\n"
unfolding encode_with from_words head_part head_words span_words to_words zone_text
a_day = refl

no_terminal : head_part (times_in (zone false 60) some_times []) None ≡ codes "2026-11-28 08:01:12 to 2026-11-29 00:10:05 UTC+01:00\n\n"
unfolding from_words head_part head_words span_words to_words zone_text
no_terminal = refl

no_day : head_part no_times an_id ≡ codes "Terminal 52500041\n\n"
unfolding encode_with head_part head_words
no_day = refl

neither : head_part no_times None ≡ []
unfolding head_part
neither = refl
