use Rattle.zvt_term.proofs.HeldLaws.{held_keeps_ledger}
use Rattle.zvt_term.proofs.laws.held_keeps_ledger.Goals as goal

pub returns : goal.returns
returns c = held_keeps_ledger
