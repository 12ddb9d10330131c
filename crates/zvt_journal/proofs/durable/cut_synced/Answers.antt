use Rattle.std.proofs.Common.{arith}
use Rattle.std.proofs.lemmas.Grind.{common_steps, elements}
use Rattle.zvt_journal.proofs.durable.cut_synced.Goals as goal

pub returns-in_err-cut-clause-any_moment : goal.returns-in_err-cut-clause-any_moment
returns-in_err-cut-clause-any_moment g c = grind (arith, common_steps)

pub returns-clause-any_moment : goal.returns-clause-any_moment
returns-clause-any_moment g c = grind (arith, elements)
