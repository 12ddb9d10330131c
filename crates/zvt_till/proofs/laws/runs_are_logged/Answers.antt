use Rattle.zvt_till.proofs.TillHistoryLemmas.{runs_are_logged}
use Rattle.zvt_till.proofs.laws.runs_are_logged.Goals as goal

pub returns : goal.returns
returns c = runs_are_logged
