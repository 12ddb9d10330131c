use Rattle.zvt_field.proofs.LawProofs as law
use Rattle.zvt_field.proofs.laws.faults_are_one.Goals as goal

pub returns : goal.returns
returns c = record { faults = law.one_fault; faultless = law.faultless }
