use Rattle.zvt_kept.proofs.Recovering.{logs_are_one}
use Rattle.zvt_kept.proofs.laws.logs_are_one.Goals as goal

pub returns : goal.returns
returns c = logs_are_one
