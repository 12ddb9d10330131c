use Rattle.zvt_field.proofs.LawProofs as law
use Rattle.zvt_field.proofs.laws.begun_are_one.Goals as goal

pub returns : goal.returns
returns c = law.begun_are_one
