use Rattle.std.proofs.Common.{◌≡◌, length}
use Rattle.zvt_trace.specs.Moments.{back_after, went_back}
use Rattle.zvt_trace.proofs.moments.went_back.Given as goal

abbrev pub invariant-times : goal.invariant-times
invariant-times l = went_back l.fn.times ≡ back_after l.before l.rest

abbrev pub decreases-times : goal.decreases-times
decreases-times l = length l.rest
