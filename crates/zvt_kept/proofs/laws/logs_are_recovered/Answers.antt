use Rattle.zvt_kept.proofs.Recovering.{logs_are_recovered}
use Rattle.zvt_kept.proofs.laws.logs_are_recovered.Goals as goal

pub returns : goal.returns
returns c = logs_are_recovered
