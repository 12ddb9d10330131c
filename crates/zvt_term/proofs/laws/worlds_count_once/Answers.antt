use Rattle.zvt_term.proofs.WorldOnce.{worlds_count_once}
use Rattle.zvt_term.proofs.laws.worlds_count_once.Goals as goal

pub returns : goal.returns
returns c = worlds_count_once c.traces_stay_distinct.ensures
