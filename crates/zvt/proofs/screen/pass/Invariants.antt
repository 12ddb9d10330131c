use Rattle.std.proofs.Common.{length, ◌-◌, ◌≤◌}
use Rattle.zvt.proofs.screen.pass.Given as goal

abbrev pub invariant-parts : goal.invariant-parts
invariant-parts g l = l.passed ≤ length l.text

abbrev pub decreases-parts : goal.decreases-parts
decreases-parts g l = length l.text - l.passed
