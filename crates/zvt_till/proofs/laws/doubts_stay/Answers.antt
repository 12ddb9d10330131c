use Rattle.zvt_till.proofs.Reversals.{doubts_stay}
use Rattle.zvt_till.proofs.laws.doubts_stay.Goals as goal

pub returns : goal.returns
returns c = doubts_stay
