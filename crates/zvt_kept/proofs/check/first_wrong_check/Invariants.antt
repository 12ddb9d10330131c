use Rattle.std.proofs.Common.{length}
use Rattle.zvt_kept.specs.Checks.{HasChecked}
use Rattle.zvt_kept.proofs.check.first_wrong_check.Given as goal

abbrev pub invariant-loop-rest : goal.invariant-loop-rest
invariant-loop-rest l = HasChecked l.text l.rest l.number l.hasher

abbrev pub decreases-loop-rest : goal.decreases-loop-rest
decreases-loop-rest l = length l.rest
