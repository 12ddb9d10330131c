use Rattle.zvt_till.proofs.BookStepLemmas.{entries_stay}
use Rattle.zvt_till.proofs.laws.entries_stay.Goals as goal

pub returns : goal.returns
returns c = entries_stay
