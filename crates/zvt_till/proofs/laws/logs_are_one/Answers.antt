use Rattle.zvt_till.proofs.Pieces.{logs_are_one}
use Rattle.zvt_till.proofs.laws.logs_are_one.Goals as goal

pub returns : goal.returns
returns c = logs_are_one
