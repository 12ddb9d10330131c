use Rattle.zvt_apdu.proofs.OneAnswer as law
use Rattle.zvt_apdu.proofs.laws.answers_are_one.Goals as goal

pub returns : goal.returns
returns c = law.answers_are_one
