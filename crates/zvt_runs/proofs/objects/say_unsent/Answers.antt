use Rattle.std.proofs.Common.{refl}
use Rattle.zvt_runs.specs.Objects.{unsent_value}
use Rattle.zvt_runs.proofs.objects.say_unsent.Goals as goal

pub returns : goal.returns
returns c = c.say_value.ensures (unsent_value c.args.word.now c.args.reason.now) c.in_ok-object.ensures refl
