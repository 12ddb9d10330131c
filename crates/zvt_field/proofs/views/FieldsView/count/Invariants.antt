use Rattle.std.proofs.Common.{◌≡◌, ◌+◌}
use Rattle.zvt_field.specs.Named.{count_of}
use Rattle.zvt_field.proofs.views.FieldsView.count.Given as goal

abbrev pub invariant-loop-field : goal.invariant-loop-field
invariant-loop-field l = l.count + count_of l.bmp l.field-iterator ≡ count_of l.bmp l.self
