use Rattle.zvt_apdu.proofs.Positions as law
use Rattle.zvt_apdu.proofs.laws.positions_are_one.Goals as goal

pub returns : goal.returns
returns c = law.positions_are_one
