-- The book that a crash at any moment of a run over TCP leaves.
use Rattle.std.specs.Prelude.{◌≡◌, ℕ, false, List, ◌∷◌, ◌++◌, map, Option, None, Some, Result}
use Rattle.zvt_stream.specs.LineReading.{LineReading}
use Rattle.zvt_stream.specs.EndState.{EndState}
use Rattle.zvt_till.specs.declared.happenings.Happening.{Happening}
use Rattle.zvt_till.specs.declared.orders.Order.{Order}
use Rattle.zvt_till.specs.Sending.{Settings}
use Rattle.zvt_journal.specs.Device.{LeavesOnly}
use Rattle.zvt_kept.specs.Keeping.{kept_asks, kept_connects, kept_orders}
use Rattle.zvt_kept.specs.KeptTill.{HasLog, Hears, KeptValue, LosesLine, has_failed, kept_rests, settling_in, till_of, with_note}
use Rattle.zvt_kept.specs.Outliving.{HappenInAll, IsBetween, KeptStep, asks, connects, runs}
use Rattle.zvt_runs.specs.declared.fault.EndFault.{EndFault}
use Rattle.zvt_runs.specs.declared.plans.Planned.{Planned}
use Rattle.zvt_runs.specs.declared.plans.StepOptions.{StepOptions}
use Rattle.zvt_runs.specs.Reporting.{ReportsNothing, ReportsRun}
use Rattle.zvt_runs.specs.Runs.{Law, noting}
use Rattle.zvt_runs.specs.Steps.{order_of}
use Rattle.zvt_runs.specs.TillEnd.{BeginsThere, MakesThere}
use Rattle.zvt_runs.specs.OverTcp.{AnswersOverTcp}

abbrev pub call_by : Option Order → KeptStep
call_by None = asks
call_by (Some order) = runs order

-- the call of a till with a journal that makes a step
abbrev pub call_of : Planned → KeptStep
call_of planned = call_by (order_of planned.step)

-- the calls of a run that makes these steps: it gets a line, and then makes them
abbrev pub calls_of : List Planned → List KeptStep
calls_of plan = connects ∷ map call_of plan

module _ {D : Type 0} (seen : D → List ℕ) (may_leave : D → List ℕ → Type 0) (moment : D → ℕ) (left_since : D → ℕ → List ℕ → Type 0) (faults : D → ℕ) where
  -- the result of a step of a till with a journal, whose order has the note of the step's word
  abbrev pub MakesKept : Law EndState (KeptValue D)
  MakesKept = noting with_note (MakesThere (kept_orders seen may_leave moment left_since faults) (Hears seen may_leave moment left_since faults) kept_rests has_failed till_of (LosesLine seen may_leave moment left_since faults) (LosesLine seen may_leave moment left_since faults) (kept_asks seen may_leave moment left_since faults) settling_in)

  -- The first steps of the plan were made. A crash at any moment leaves a journal of the till's log and a prefix of the
  -- events of these steps. At the end the journal contains all of them, unless it failed.
  pub record OutlivesRun (settings : Settings) (log : List Happening) (plan : List Planned) (old new : KeptValue D) : Type 0 where
    pub done : List Planned
    pub later : List Planned
    pub cut : plan ≡ done ++ later
    pub happened : List Happening
    pub by : HappenInAll settings.currency (calls_of done) happened
    pub leaves : LeavesOnly moment left_since old.standing.device new.standing.device (IsBetween settings log happened)
    pub then : has_failed new ≡ false → HasLog seen may_leave moment left_since faults settings (log ++ happened) new.standing

  -- The book outlives the process: whatever a run of a till over TCP returns, a crash at any moment of it leaves the
  -- book of the events up to then.
  abbrev pub BookRunsOutlive : Type 0
  BookRunsOutlive =
      (settings : Settings) (log : List Happening) (reading : LineReading) (options : StepOptions) (plan : List Planned) (old new : KeptValue D) (first last : Option (List ℕ))
      (report_first report_last : Option (List ℕ)) (failures_before failures_after : ℕ) (result : Result Unit EndFault)
      → HasLog seen may_leave moment left_since faults settings log old.standing → has_failed old ≡ false
      → AnswersOverTcp (kept_connects seen may_leave moment left_since faults) has_failed till_of MakesKept (BeginsThere reading) options plan old new first last
      (ReportsRun report_first report_last failures_before failures_after) (ReportsNothing report_first report_last failures_before failures_after) result
      → OutlivesRun settings log plan old new
