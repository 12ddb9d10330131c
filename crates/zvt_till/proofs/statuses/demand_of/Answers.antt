use Rattle.std.proofs.Common.{arith}
use Rattle.std.proofs.lemmas.Grind.{elements}
use Rattle.zvt_till.proofs.statuses.demand_of.Goals as goal

pub returns-in_err-row-in-Reverse : goal.returns-in_err-row-in-Reverse
returns-in_err-row-in-Reverse c = grind (arith, elements)

pub returns-in_ok-row-in-Reverse : goal.returns-in_ok-row-in-Reverse
returns-in_ok-row-in-Reverse c = grind (arith, elements)
