use Rattle.zvt_service.proofs.Stays.{answers_stay}
use Rattle.zvt_service.proofs.laws.answers_stay.Goals as goal

pub returns : goal.returns
returns g c = let V = g.D.Device in answers_stay V.seen V.may_leave V.moment V.left_since V.faults g.met.D.Device.only_now
