use Rattle.std.proofs.Common.{◌≡◌, length}
use Rattle.zvt_web.specs.Routes.{first_at}
use Rattle.zvt_web.proofs.routes.first_at.Given as goal

abbrev pub invariant-routes : goal.invariant-routes
invariant-routes l = first_at l.path l.routes ≡ first_at l.path l.rest

abbrev pub decreases-routes : goal.decreases-routes
decreases-routes l = length l.rest
