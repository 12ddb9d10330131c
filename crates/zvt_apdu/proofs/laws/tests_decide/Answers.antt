use Rattle.zvt_apdu.proofs.Fit as law
use Rattle.zvt_apdu.proofs.laws.tests_decide.Goals as goal

pub returns : goal.returns
returns c = law.tests_decide
