use Rattle.zvt_service.proofs.Verdicts.{verdicts_stay}
use Rattle.zvt_service.proofs.laws.verdicts_stay.Goals as goal

pub returns : goal.returns
returns g c = let V = g.D.Device in verdicts_stay V.seen V.may_leave V.moment V.left_since V.faults g.met.D.Device.only_now
