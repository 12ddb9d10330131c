use Rattle.std.proofs.Common.{arith}
use Rattle.std.proofs.lemmas.Grind.{common_steps}
use Rattle.zvt_till.proofs.line.TillMachine.hear.Goals as goal

pub returns-clause-heard : goal.returns-clause-heard
returns-clause-heard c = grind (arith, common_steps)
