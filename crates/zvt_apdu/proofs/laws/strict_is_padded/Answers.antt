use Rattle.zvt_apdu.proofs.NormalLemmas as law
use Rattle.zvt_apdu.proofs.PaddedWhys.{never_not_shortest}
use Rattle.zvt_apdu.proofs.laws.strict_is_padded.Goals as goal

pub returns : goal.returns
returns c = record { spelled = law.strict_is_padded; found = law.strict_stays; forms = never_not_shortest }
