use Rattle.zvt_term.proofs.WorldComplete.{complete}
use Rattle.zvt_term.proofs.laws.settlements_are_complete.Goals as goal

pub returns : goal.returns
returns c = complete
