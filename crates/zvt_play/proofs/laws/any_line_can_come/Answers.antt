use Rattle.zvt_play.proofs.OpenPlayLemmas.{any_line_can_come}
use Rattle.zvt_play.proofs.laws.any_line_can_come.Goals as goal

pub returns : goal.returns
returns c = any_line_can_come
