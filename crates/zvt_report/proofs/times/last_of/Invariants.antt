use Rattle.std.proofs.Common.{◌≡◌, length}
use Rattle.zvt_report.specs.Times.{last_of}
use Rattle.zvt_report.proofs.times.last_of.Given as goal

abbrev pub invariant-times : goal.invariant-times
invariant-times l = last_of l.fn.first l.later ≡ last_of l.last l.rest

abbrev pub decreases-times : goal.decreases-times
decreases-times l = length l.rest
