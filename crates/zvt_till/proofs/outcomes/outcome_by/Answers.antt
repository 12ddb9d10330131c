use Rattle.std.proofs.Common.{rules}
use Rattle.zvt_till.proofs.outcomes.outcome_by.Goals as goal

pub returns-in-Lost : goal.returns-in-Lost
returns-in-Lost c = search rules
