use Rattle.zvt_apdu.proofs.Positions as law
use Rattle.zvt_apdu.proofs.laws.refusals_are_one.Goals as goal

pub returns : goal.returns
returns c = law.refusals_are_one
