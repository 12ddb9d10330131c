use Rattle.zvt_web.proofs.ShortBodies.{bodies_are_short}
use Rattle.zvt_web.proofs.laws.bodies_are_short.Goals as goal

pub returns : goal.returns
returns c = bodies_are_short
