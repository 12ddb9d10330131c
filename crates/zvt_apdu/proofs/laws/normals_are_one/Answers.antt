use Rattle.zvt_apdu.proofs.NormalLemmas as law
use Rattle.zvt_apdu.proofs.laws.normals_are_one.Goals as goal

pub returns : goal.returns
returns c = record { one = law.normals_are_one; stay = law.normals_stay }
