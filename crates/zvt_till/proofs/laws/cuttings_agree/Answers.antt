use Rattle.zvt_till.proofs.Pieces.{cuttings_agree}
use Rattle.zvt_till.proofs.laws.cuttings_agree.Goals as goal

pub returns : goal.returns
returns c = cuttings_agree
