use Rattle.zvt_term.proofs.ExtraLaws.{extras_keep_ledger}
use Rattle.zvt_term.proofs.laws.extras_keep_ledger.Goals as goal

pub returns : goal.returns
returns c = extras_keep_ledger
