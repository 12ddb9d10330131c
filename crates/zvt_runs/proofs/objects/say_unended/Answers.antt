use Rattle.std.proofs.Common.{None, refl}
use Rattle.zvt_runs.specs.Objects.{broken_value}
use Rattle.zvt_runs.proofs.objects.say_unended.Goals as goal

pub returns : goal.returns
returns c = c.say_value.ensures (broken_value c.args.word.now None) c.in_ok-object.ensures refl
