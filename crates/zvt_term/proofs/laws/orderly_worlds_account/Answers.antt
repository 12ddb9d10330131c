use Rattle.zvt_term.proofs.Accounting.{orderly_worlds_account}
use Rattle.zvt_term.proofs.laws.orderly_worlds_account.Goals as goal

pub returns : goal.returns
returns c = orderly_worlds_account
