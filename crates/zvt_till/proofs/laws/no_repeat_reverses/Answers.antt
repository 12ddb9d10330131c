use Rattle.zvt_till.proofs.Repeats.{no_repeat_reverses}
use Rattle.zvt_till.proofs.laws.no_repeat_reverses.Goals as goal

pub returns : goal.returns
returns c = no_repeat_reverses
