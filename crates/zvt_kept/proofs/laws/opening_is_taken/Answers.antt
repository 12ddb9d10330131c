use Rattle.zvt_kept.proofs.Made.{opening_is_taken}
use Rattle.zvt_kept.proofs.laws.opening_is_taken.Goals as goal

pub returns : goal.returns
returns c = opening_is_taken
