use Rattle.zvt_service.proofs.Paid.{paid_is_booked}
use Rattle.zvt_service.proofs.laws.paid_is_booked.Goals as goal

pub returns : goal.returns
returns g c = let V = g.D.Device in paid_is_booked V.seen V.may_leave V.moment V.left_since V.faults
