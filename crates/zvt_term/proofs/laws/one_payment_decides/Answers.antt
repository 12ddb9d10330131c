use Rattle.zvt_term.proofs.LedgerDecides.{one_payment_decides}
use Rattle.zvt_term.proofs.laws.one_payment_decides.Goals as goal

pub returns : goal.returns
returns c = one_payment_decides
