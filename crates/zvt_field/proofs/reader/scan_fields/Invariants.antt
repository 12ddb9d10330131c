use Rattle.std.proofs.Common.{◌-◌}
use Rattle.zvt_grammar.specs.Lengths.{reading_of}
use Rattle.zvt_field.proofs.ListMoves.{ReadTo}
use Rattle.zvt_field.proofs.reader.scan_fields.Given as goal

abbrev pub invariant-loop-taken : goal.invariant-loop-taken
invariant-loop-taken l = ReadTo (reading_of l.lengths) l.room l.bytes l.list.items l.taken

abbrev pub decreases-loop-taken : goal.decreases-loop-taken
decreases-loop-taken l = l.room - l.taken
