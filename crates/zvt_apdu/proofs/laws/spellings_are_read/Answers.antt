use Rattle.zvt_apdu.proofs.LawLemmas as law
use Rattle.zvt_apdu.proofs.laws.spellings_are_read.Goals as goal

pub returns : goal.returns
returns c = law.spellings_are_read
