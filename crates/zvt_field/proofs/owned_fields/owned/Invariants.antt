use Rattle.std.proofs.Common.{◌≡◌, ◌++◌}
use Rattle.zvt_field.proofs.owned_fields.owned.Given as goal

abbrev pub invariant-loop-field : goal.invariant-loop-field
invariant-loop-field l = l.made ++ l.field-iterator ≡ l.initial.field-iterator
