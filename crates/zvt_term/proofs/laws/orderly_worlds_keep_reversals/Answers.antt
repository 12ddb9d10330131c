use Rattle.zvt_term.proofs.Returned.{orderly_worlds_keep_reversals}
use Rattle.zvt_term.proofs.laws.orderly_worlds_keep_reversals.Goals as goal

pub returns : goal.returns
returns c = orderly_worlds_keep_reversals
