use Rattle.std.proofs.Common.{rules}
use Rattle.zvt_runs.proofs.steps.say_total_line.Goals as goal

pub returns-in-Json : goal.returns-in-Json
returns-in-Json c = search rules
