use Rattle.zvt_runs.proofs.Serving.{one_more}
use Rattle.zvt_runs.proofs.service.take_steps.Goals as goal

pub steps-preserved : goal.steps-preserved
steps-preserved g c = record { stepped = one_more c.steps.taken _ _ _ _ _ _ c.steps.invariant.stepped c.in_default.ensures }
