use Rattle.zvt_apdu.proofs.OneSpelling as law
use Rattle.zvt_apdu.proofs.laws.spellings_are_one.Goals as goal

pub returns : goal.returns
returns c = law.spellings_are_one
