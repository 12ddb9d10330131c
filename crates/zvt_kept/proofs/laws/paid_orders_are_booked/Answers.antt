use Rattle.zvt_kept.proofs.PaidOrders.{paid_are_booked}
use Rattle.zvt_kept.proofs.laws.paid_orders_are_booked.Goals as goal

pub returns : goal.returns
returns c = paid_are_booked
