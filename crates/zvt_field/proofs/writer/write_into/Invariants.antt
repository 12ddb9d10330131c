use Rattle.std.proofs.Common.{take}
use Rattle.zvt_tlv.specs.Sizes.{Puts}
use Rattle.zvt_field.specs.Spelling.{spelling_of_all}
use Rattle.zvt_field.proofs.writer.write_into.Given as goal

abbrev pub invariant-loop-field : goal.invariant-loop-field
invariant-loop-field l = Puts (spelling_of_all (take l.field-index l.field-items)) l.initial.out l.out l.at
