-- The run of a new till on a line.
use Rattle.std.specs.Prelude.{◌≡◌, ℕ, List, Option, Result}
use Rattle.zvt_settle.specs.declared.settling.SettlingTill.{SettlingTill}
use Rattle.zvt_settle.specs.Inside.{both_of, till_inside}
use Rattle.zvt_settle.specs.Settling.{Line, new_both, take}
use Rattle.zvt_runs.specs.declared.plans.StepOptions.{StepOptions}
use Rattle.zvt_till.specs.declared.entries.Entry.{Entry}
use Rattle.zvt_till.specs.Sending.{Settings}
use Rattle.zvt_till.specs.declared.happenings.Happening.TheVariants.{Connected}
use Rattle.zvt_runs.specs.Runs.{Answers, Standing, StepLaw, by_step}
use Rattle.zvt_runs.specs.declared.fault.EndFault.{EndFault}
use Rattle.zvt_runs.specs.declared.plans.Planned.{Planned}

-- A new till with these settings, connected to a fresh line, ran these steps. `Reported` holds for the notes on the
-- steps and for the till's book.
pub record RunsPlan {L : Type 0} (makes : StepLaw L SettlingTill) (begins : L → Type 0) (settings : Settings) (options : StepOptions) (plan : List Planned) (old new : Option (List ℕ)) (Reported : List ℕ → List Entry → Type 0) (result : Result Unit EndFault) : Type 0 where
  pub before : Standing L SettlingTill
  pub after : Standing L SettlingTill
  pub begun : begins before.line
  pub connected : both_of before.till ≡ take (new_both settings) (Line Connected)
  pub answers : Answers till_inside (by_step makes) options (λ notes. Reported notes (till_inside after.till).state.book) plan before after old new result
