use Rattle.zvt_till.proofs.Distinct.{traces_stay_distinct}
use Rattle.zvt_till.proofs.laws.traces_stay_distinct.Goals as goal

pub returns : goal.returns
returns c = traces_stay_distinct
