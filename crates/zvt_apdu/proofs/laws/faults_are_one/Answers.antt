use Rattle.zvt_apdu.proofs.Staying as law
use Rattle.zvt_apdu.proofs.laws.faults_are_one.Goals as goal

pub returns : goal.returns
returns c = record { faults = law.faults_are_one; faultless = law.faultless }
