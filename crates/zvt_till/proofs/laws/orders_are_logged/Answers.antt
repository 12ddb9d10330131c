use Rattle.zvt_till.proofs.Ordering.{orders_are_logged}
use Rattle.zvt_till.proofs.laws.orders_are_logged.Goals as goal

pub returns : goal.returns
returns c = orders_are_logged
