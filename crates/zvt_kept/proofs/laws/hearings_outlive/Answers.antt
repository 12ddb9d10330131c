use Rattle.zvt_kept.proofs.Outlived.{hearings_outlive}
use Rattle.zvt_kept.proofs.laws.hearings_outlive.Goals as goal

pub returns : goal.returns
returns g c = let V = g.D.Device in hearings_outlive V.seen V.may_leave V.moment V.left_since V.faults g.met.D.Device.only_now
