use Rattle.std.proofs.Common.{rules}
use Rattle.zvt_till.proofs.statuses.listened.Goals as goal

pub returns : goal.returns
returns c = search rules
