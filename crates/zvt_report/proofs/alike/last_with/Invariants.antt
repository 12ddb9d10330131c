use Rattle.std.proofs.Common.{◌≡◌, None, length}
use Rattle.zvt_report.specs.Alike.{last_with}
use Rattle.zvt_report.proofs.alike.last_with.Given as goal

abbrev pub invariant-seen : goal.invariant-seen
invariant-seen l = last_with l.number l.found l.rest ≡ last_with l.number None l.fn.seen

abbrev pub decreases-seen : goal.decreases-seen
decreases-seen l = length l.rest
