-- A till that settles, on a line.
use Rattle.std.specs.Prelude.{◌≡◌, Bool, true, false, ◌&&◌, Option, Some, None}
use Rattle.zvt_apdu.specs.Message.{Message}
use Rattle.zvt_stream.specs.Answered.{Answered}
use Rattle.zvt_till.specs.declared.happenings.Happening.TheVariants.{Heard as HeardIn, Malformed, Lost}
use Rattle.zvt_till.specs.Hearing.{heard_as}
use Rattle.zvt_till.specs.Line.{is_idle, till_hears, till_loses, till_malforms}
use Rattle.zvt_settle.specs.declared.settling.SettlingTill.{SettlingTill}
use Rattle.zvt_settle.specs.Inside.{both_of}
use Rattle.zvt_settle.specs.Settling.{Line, take}

-- the till inside answers each message
abbrev pub settling_hears : SettlingTill → Message → Answered → SettlingTill → Type 0
settling_hears old message answered new = (both_of new ≡ take (both_of old) (Line (HeardIn (heard_as message)))) × till_hears old.till message answered new.till

abbrev pub settling_loses : SettlingTill → SettlingTill → Type 0
settling_loses old new = (both_of new ≡ take (both_of old) (Line Lost)) × till_loses old.till new.till

abbrev pub settling_malforms : SettlingTill → SettlingTill → Type 0
settling_malforms old new = (both_of new ≡ take (both_of old) (Line Malformed)) × till_malforms old.till new.till

abbrev pub asks_nothing : Option Bool → Bool
asks_nothing None = true
asks_nothing (Some positive) = false

abbrev pub settling_rests : SettlingTill → Bool
settling_rests t = is_idle t.till.state.running && asks_nothing t.asking
