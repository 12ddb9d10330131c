use Rattle.std.proofs.Common.{◌-◌, ◌+◌, ◌*◌}
use Rattle.zvt_grammar.specs.Lengths.{reading_of}
use Rattle.zvt_tlv.proofs.Levels.{ReadTo}
use Rattle.zvt_tlv.proofs.reader.+scan.Given as goal

abbrev pub decreases-scan_object : goal.decreases-scan_object
decreases-scan_object l = 2 * (7 - l.depth)

abbrev pub decreases-scan_objects : goal.decreases-scan_objects
decreases-scan_objects l = 2 * (7 - l.depth) + 1

abbrev pub invariant-scan_objects-loop-taken : goal.invariant-scan_objects-loop-taken
invariant-scan_objects-loop-taken l = ReadTo (reading_of l.lengths) l.depth l.room l.bytes l.objects.items l.taken

abbrev pub decreases-scan_objects-loop-taken : goal.decreases-scan_objects-loop-taken
decreases-scan_objects-loop-taken l = l.room - l.taken
