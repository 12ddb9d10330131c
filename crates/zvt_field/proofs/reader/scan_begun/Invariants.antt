use Rattle.std.proofs.Common.{◌-◌}
use Rattle.zvt_grammar.specs.Lengths.{reading_of}
use Rattle.zvt_field.proofs.ListMoves.{ReadTo}
use Rattle.zvt_field.proofs.reader.scan_begun.Given as goal

abbrev pub invariant-fields : goal.invariant-fields
invariant-fields l = ReadTo (reading_of l.lengths) l.room l.bytes l.list.items l.taken

abbrev pub decreases-fields : goal.decreases-fields
decreases-fields l = l.room - l.taken
