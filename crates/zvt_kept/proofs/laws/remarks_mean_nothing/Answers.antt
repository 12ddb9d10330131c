use Rattle.zvt_kept.proofs.Remarked.{remarks_mean_nothing}
use Rattle.zvt_kept.proofs.laws.remarks_mean_nothing.Goals as goal

pub returns : goal.returns
returns c = remarks_mean_nothing
