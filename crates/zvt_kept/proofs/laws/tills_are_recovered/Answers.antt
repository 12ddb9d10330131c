use Rattle.zvt_kept.proofs.Recovering.{tills_are_recovered}
use Rattle.zvt_kept.proofs.laws.tills_are_recovered.Goals as goal

pub returns : goal.returns
returns g c = let V = g.D.Device in tills_are_recovered V.seen V.may_leave V.moment V.left_since V.faults
