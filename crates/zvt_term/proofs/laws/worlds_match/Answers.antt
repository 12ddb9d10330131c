use Rattle.zvt_term.proofs.WorldMeans.{worlds_match}
use Rattle.zvt_term.proofs.laws.worlds_match.Goals as goal

pub returns : goal.returns
returns c = worlds_match
