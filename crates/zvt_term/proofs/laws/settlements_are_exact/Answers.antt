use Rattle.zvt_term.proofs.WorldExact.{exact}
use Rattle.zvt_term.proofs.laws.settlements_are_exact.Goals as goal

pub returns : goal.returns
returns c = exact
