use Rattle.zvt_field.specs.Single.{Collected}
use Rattle.zvt_field.proofs.single.collect.Given as goal

abbrev pub invariant-loop-field : goal.invariant-loop-field
invariant-loop-field l = Collected l.fields l.slots l.field-iterator
