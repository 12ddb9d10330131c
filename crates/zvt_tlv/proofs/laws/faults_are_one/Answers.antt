use Rattle.zvt_tlv.proofs.LawProofs as law
use Rattle.zvt_tlv.proofs.laws.faults_are_one.Goals as goal

pub returns : goal.returns
returns c = record { faults = law.faults_are_one; faultless = law.faultless }
