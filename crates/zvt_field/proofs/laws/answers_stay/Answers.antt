use Rattle.zvt_field.proofs.LawProofs as law
use Rattle.zvt_field.proofs.laws.answers_stay.Goals as goal

pub returns : goal.returns
returns c = law.answers_stay
