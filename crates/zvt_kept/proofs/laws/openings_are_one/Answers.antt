use Rattle.zvt_kept.proofs.OpeningLemmas.{openings_are_one}
use Rattle.zvt_kept.proofs.laws.openings_are_one.Goals as goal

pub returns : goal.returns
returns c = openings_are_one
