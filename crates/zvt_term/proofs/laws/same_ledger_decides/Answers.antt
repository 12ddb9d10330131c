use Rattle.zvt_term.proofs.LedgerDecides.{same_ledger_decides}
use Rattle.zvt_term.proofs.laws.same_ledger_decides.Goals as goal

pub returns : goal.returns
returns c = same_ledger_decides
