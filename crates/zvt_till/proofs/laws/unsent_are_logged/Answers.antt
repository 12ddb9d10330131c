use Rattle.zvt_till.proofs.Ordering.{unsent_are_logged}
use Rattle.zvt_till.proofs.laws.unsent_are_logged.Goals as goal

pub returns : goal.returns
returns c = unsent_are_logged
