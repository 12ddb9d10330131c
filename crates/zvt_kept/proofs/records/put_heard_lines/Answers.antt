use Rattle.std.proofs.Common.{arith}
use Rattle.std.proofs.lemmas.Grind.{common_steps}
use Rattle.zvt_kept.proofs.records.put_heard_lines.Goals as goal

pub returns : goal.returns
returns c = grind (arith, common_steps)
