use Rattle.zvt_till.proofs.Reversals.{no_reversal_dropped}
use Rattle.zvt_till.proofs.laws.no_reversal_dropped.Goals as goal

pub returns : goal.returns
returns c = no_reversal_dropped
