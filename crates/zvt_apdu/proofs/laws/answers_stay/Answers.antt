use Rattle.zvt_apdu.proofs.Staying as law
use Rattle.zvt_apdu.proofs.laws.answers_stay.Goals as goal

pub returns : goal.returns
returns c = law.answers_stay
