use Rattle.zvt_stream.proofs.CuttingLemmas.{any_refusal}
use Rattle.zvt_stream.proofs.laws.any_refusal.Goals as goal

pub returns : goal.returns
returns c = any_refusal
