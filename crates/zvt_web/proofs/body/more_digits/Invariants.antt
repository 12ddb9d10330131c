use Rattle.std.proofs.Common.{◌≡◌, ◌≤◌, length}
use Rattle.zvt_web.specs.Body.{more_digits}
use Rattle.zvt_web.proofs.body.more_digits.Given as goal

abbrev pub invariant-digits : goal.invariant-digits
invariant-digits l = (more_digits l.first l.text ≡ more_digits l.value l.rest) × (l.value ≤ 1000000000000)

abbrev pub decreases-digits : goal.decreases-digits
decreases-digits l = length l.rest
