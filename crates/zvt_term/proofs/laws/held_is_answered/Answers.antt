use Rattle.zvt_term.proofs.HeldLaws.{held_is_answered}
use Rattle.zvt_term.proofs.laws.held_is_answered.Goals as goal

pub returns : goal.returns
returns c = held_is_answered
