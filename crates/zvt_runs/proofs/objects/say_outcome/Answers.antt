use Rattle.zvt_runs.specs.Objects.{outcome_value}
use Rattle.zvt_runs.proofs.ObjectLemmas.{outcome_whole}
use Rattle.zvt_runs.proofs.objects.say_outcome.Goals as goal

pub returns : goal.returns
returns c = c.say_value.ensures (outcome_value c.args.word.now c.args.outcome.now) c.in_ok-object.ensures (outcome_whole c.args.word.now c.args.outcome.now)
