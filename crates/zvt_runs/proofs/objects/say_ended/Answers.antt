use Rattle.std.proofs.Common.{refl}
use Rattle.zvt_runs.specs.Objects.{ended_value}
use Rattle.zvt_runs.proofs.objects.say_ended.Goals as goal

pub returns : goal.returns
returns c = c.say_value.ensures (ended_value c.args.name.now c.args.word.now) c.in_ok-object.ensures refl
