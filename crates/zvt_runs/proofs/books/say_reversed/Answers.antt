use Rattle.std.proofs.Common.{rules}
use Rattle.zvt_runs.proofs.books.say_reversed.Goals as goal

pub returns-else-reversed : goal.returns-else-reversed
returns-else-reversed c = search rules
