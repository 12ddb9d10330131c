use Rattle.std.proofs.Common.{◌≡◌, length}
use Rattle.zvt_play.specs.Naming.{bound_field}
use Rattle.zvt_play.specs.Playing.{acts_of}
use Rattle.zvt_play.proofs.naming.bound_field.Given as goal

abbrev pub invariant-steps : goal.invariant-steps
invariant-steps l = bound_field l.name (acts_of l.steps) ≡ bound_field l.name (acts_of l.rest)

abbrev pub decreases-steps : goal.decreases-steps
decreases-steps l = length l.rest
