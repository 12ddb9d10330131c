use Rattle.zvt_till.proofs.TillHistoryLemmas.{faults_are_logged}
use Rattle.zvt_till.proofs.laws.faults_are_logged.Goals as goal

pub returns : goal.returns
returns c = faults_are_logged
