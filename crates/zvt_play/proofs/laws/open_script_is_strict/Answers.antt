use Rattle.zvt_play.proofs.OpenPlayLemmas.{open_script_is_strict}
use Rattle.zvt_play.proofs.laws.open_script_is_strict.Goals as goal

pub returns : goal.returns
returns c = open_script_is_strict
