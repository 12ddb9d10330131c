use Rattle.std.proofs.Common.{◌≡◌, length}
use Rattle.zvt_trace.specs.Moments.{time_at}
use Rattle.zvt_trace.proofs.moments.time_at.Given as goal

abbrev pub invariant-times : goal.invariant-times
invariant-times l = time_at l.times l.line ≡ time_at l.rest l.line

abbrev pub decreases-times : goal.decreases-times
decreases-times l = length l.rest
