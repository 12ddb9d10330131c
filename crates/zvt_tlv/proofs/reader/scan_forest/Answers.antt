use Rattle.std.proofs.Common.{rules}
use Rattle.zvt_grammar.specs.Lengths.{reading_of}
use Rattle.zvt_tlv.proofs.Moves.{have_spelling}
use Rattle.zvt_tlv.proofs.reader.scan_forest.Goals as goal

pub of-requires : goal.of-requires
of-requires c =
    have_spelling (reading_of c.args.lengths) c.args.depth c.args.room c.args.bytes.now c.in-Whole.objects c.in_ok-objects.field-0 c.requires.least c.requires.small c.in-Whole.is c.in_ok-objects.ensures

pub returns : goal.returns
returns c = search rules
