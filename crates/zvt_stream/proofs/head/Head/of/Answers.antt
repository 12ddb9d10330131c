use Rattle.std.proofs.Common.{[], refl}
use Rattle.zvt_stream.proofs.head.Head.of.Goals as goal

pub returns : goal.returns
returns c = c.before-2.ensures [] refl
