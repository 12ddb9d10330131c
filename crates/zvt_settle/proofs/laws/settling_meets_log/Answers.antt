use Rattle.zvt_settle.proofs.StorySteps.{settling_meets_log}
use Rattle.zvt_settle.proofs.laws.settling_meets_log.Goals as goal

pub returns : goal.returns
returns c = settling_meets_log
