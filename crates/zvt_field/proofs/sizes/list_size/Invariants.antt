use Rattle.std.proofs.Common.{◌≡◌, length, take}
use Rattle.zvt_field.specs.Spelling.{spelling_of_all}
use Rattle.zvt_field.proofs.sizes.list_size.Given as goal

abbrev pub invariant-loop-field : goal.invariant-loop-field
invariant-loop-field l = l.total ≡ length (spelling_of_all (take l.field-index l.fields))
