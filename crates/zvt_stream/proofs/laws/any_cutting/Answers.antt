use Rattle.zvt_stream.proofs.CuttingLemmas.{any_cutting}
use Rattle.zvt_stream.proofs.laws.any_cutting.Goals as goal

pub returns : goal.returns
returns c = any_cutting
