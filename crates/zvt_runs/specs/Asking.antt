-- What the asks of a run come to.
use Rattle.std.specs.Prelude.{Bool, true, false, Option, Some, None, Result, Ok, Err, is_some, length, slice_get}
use Rattle.zvt_settle.specs.Settling.{Settling}
use Rattle.zvt_settle.specs.declared.deciding.Settlement.{Settlement}
use Rattle.zvt_till.specs.declared.line.RunFault.{RunFault}
use Rattle.zvt_runs.specs.declared.asking.Asked.{Asked}
use Rattle.zvt_runs.specs.declared.asking.Asked.TheVariants.{Nothing, Unsettled, Settled}
use Rattle.zvt_runs.specs.declared.asking.Before.{Before}
use Rattle.zvt_runs.specs.declared.asking.Ended.{Ended}
use Rattle.zvt_runs.specs.declared.asking.Ended.TheVariants.{Ask}

-- what had been settled before an ask
abbrev pub before_of : Settling → Before
before_of old = record { settled = length old.settled; pending = is_some old.pending }

-- an order that is not settled, or none
abbrev pub left_open : (was_pending : Bool) → Asked
left_open true = Unsettled
left_open false = Nothing

abbrev pub came_to : (was_pending : Bool) → Option Settlement → Asked
came_to was_pending (Some settlement) = Settled settlement
came_to was_pending None = left_open was_pending

abbrev pub asked_in : Before → (new : Settling) → Asked
asked_in before new = came_to before.pending (slice_get new.settled before.settled)

-- The ask came to the first settlement that was not there before.
abbrev pub asked_by : (old new : Settling) → Asked
asked_by old new = asked_in (before_of old) new

-- the end of a step whose ask ran like this
abbrev pub ended_by : Result Unit RunFault → Asked → Result Ended RunFault
ended_by (Ok done) asked = Ok (Ask asked)
ended_by (Err fault) asked = Err fault
