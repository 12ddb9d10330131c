use Rattle.std.proofs.Common.{rules}
use Rattle.zvt_c.proofs.till.zvt_till_state.Goals as goal

pub returns-clause-said : goal.returns-clause-said
returns-clause-said c = search rules
