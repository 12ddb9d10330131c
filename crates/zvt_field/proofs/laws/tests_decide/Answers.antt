use Rattle.zvt_field.proofs.LawProofs as law
use Rattle.zvt_field.proofs.laws.tests_decide.Goals as goal

pub returns : goal.returns
returns c = record { decide = law.tests_decide; some = law.each_beginning_stands; one = law.positions_are_one }
