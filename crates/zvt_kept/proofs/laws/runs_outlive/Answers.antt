use Rattle.zvt_kept.proofs.RunsOutlived.{runs_outlive}
use Rattle.zvt_kept.proofs.laws.runs_outlive.Goals as goal

pub returns : goal.returns
returns g c = let V = g.D.Device in runs_outlive V.seen V.may_leave V.moment V.left_since V.faults g.met.D.Device.only_now
