use Rattle.std.proofs.Common.{refl}
use Rattle.std.specs.Fmt.{digits}
use Rattle.zvt_web.proofs.laws.examples.Goals as goal

pub returns-clause-guards : goal.returns-clause-guards
unfolding digits
returns-clause-guards c = (refl, refl, refl, refl, refl, refl, refl, refl, refl, refl, refl, refl, refl, refl, refl)
