use Rattle.zvt_kept.proofs.Recovering.{settling_is_recovered}
use Rattle.zvt_kept.proofs.laws.settling_is_recovered.Goals as goal

pub returns : goal.returns
returns g c = let V = g.D.Device in settling_is_recovered V.seen V.may_leave V.moment V.left_since V.faults
