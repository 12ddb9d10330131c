use Rattle.zvt_runs.proofs.Worlds.{calls_are_moves}
use Rattle.zvt_runs.proofs.laws.calls_are_moves.Goals as goal

pub returns : goal.returns
returns g c = let V = g.D.Device in calls_are_moves V.seen V.may_leave V.moment V.left_since V.faults g.met.D.Device.only_now
