use Rattle.zvt_runs.proofs.Undelayed.{undelayed_serves}
use Rattle.zvt_runs.proofs.laws.undelayed_serves.Goals as goal

pub returns : goal.returns
returns c = undelayed_serves
