-- The result of loading saved bytes.
use Rattle.std.specs.Prelude.{◌≡◌, ℕ, List, Option, Some, Result, IfOk, MatchResult}
use Rattle.zvt_till.specs.declared.entries.Entry.{Entry}
use Rattle.zvt_till.specs.declared.happenings.Happening.TheVariants.{Lost}
use Rattle.zvt_till.specs.declared.outcomes.Cause.{Cause}
use Rattle.zvt_till.specs.declared.outcomes.Outcome.{Outcome}
use Rattle.zvt_till.specs.Restoring.{at_rest}
use Rattle.zvt_till.specs.Sending.{Settings}
use Rattle.zvt_till.specs.Settings.{strict}
use Rattle.zvt_till.specs.Till.{TillState, step}
use Rattle.zvt_till.specs.View.{TillValue}
use Rattle.zvt_till.specs.declared.snapshot.layouts.Layout.{Layout}
use Rattle.zvt_till.specs.declared.snapshot.decoder.LoadError.{LoadError}
use Rattle.zvt_till.specs.declared.snapshot.decoder.LoadError.TheVariants.{Memory}
use Rattle.zvt_till.specs.declared.snapshot.decoder.Made.{Made}
use Rattle.zvt_till.specs.SnapshotReading.{IsOfLayout}

abbrev pub made_of : Settings → Option Outcome → Made
made_of settings last = record { password = settings.password; config = settings.config; currency = settings.currency; last = last }

abbrev pub settings_of : Made → Settings
settings_of made = record { password = made.password; config = made.config; currency = made.currency; rules = strict }

abbrev pub IsMade : Option Made → Settings → Option Outcome → Type 0
IsMade found settings last = found ≡ Some (made_of settings last)

-- the state under the strict rules, which saved bytes do not name
abbrev pub strictly : TillState → TillState
strictly s = record s { settings = record s.settings { rules = strict } }

-- a till with this state under the strict rules, or out of memory
abbrev pub LeadsTo : Result TillValue LoadError → TillState → Type 0
LeadsTo result s = MatchResult result (λ till. till.state ≡ strictly s) (λ why. why ≡ Memory)

-- the till at rest with these rows, or out of memory
abbrev pub IsLoaded : Result TillValue LoadError → Made → List Entry → List (ℕ × Cause) → Type 0
IsLoaded result made book unclear = LeadsTo result (at_rest (settings_of made) book unclear made.last)

-- a till that has this book after a loss of its line
abbrev pub RestsOn : Result TillValue LoadError → List Entry → Type 0
RestsOn result book = IfOk result (λ till. (step till.state Lost).book ≡ book)

-- a till that the layout holds after a loss of its line
abbrev pub OfLayout : Result TillValue LoadError → Layout → Type 0
OfLayout result layout = IfOk result (λ till. IsOfLayout layout (step till.state Lost))
