use Rattle.std.proofs.Common.{arith}
use Rattle.std.proofs.lemmas.Grind.{elements}
use Rattle.zvt_till.proofs.till.Till.order.Goals as goal

pub begin-requires : goal.begin-requires
begin-requires c = grind (arith, elements)
