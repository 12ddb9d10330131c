use Rattle.std.proofs.lemmas.Grind.{common_steps}
use Rattle.std.proofs.Common.{arith}
use Rattle.zvt_audit.proofs.objects.unfollowed_rows.Goals as goal

pub returns : goal.returns
returns c = grind (arith, common_steps)
