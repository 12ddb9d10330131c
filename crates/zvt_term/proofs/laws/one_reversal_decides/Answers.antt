use Rattle.zvt_term.proofs.ReversalDecides.{one_reversal_decides}
use Rattle.zvt_term.proofs.laws.one_reversal_decides.Goals as goal

pub returns : goal.returns
returns c = one_reversal_decides
