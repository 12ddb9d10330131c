use Rattle.zvt_kept.proofs.PastOrdersStay.{past_orders_stay}
use Rattle.zvt_kept.proofs.laws.past_orders_stay.Goals as goal

pub returns : goal.returns
returns c = past_orders_stay
