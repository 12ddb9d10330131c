use Rattle.zvt_grammar.specs.Lengths.{reading_of}
use Rattle.zvt_field.proofs.CountMoves.{CountTo}
use Rattle.zvt_field.proofs.reader.scan_count.Given as goal

abbrev pub invariant-loop-count : goal.invariant-loop-count
invariant-loop-count l = CountTo (reading_of l.fn.lengths) l.room l.bytes l.digits l.number l.count
