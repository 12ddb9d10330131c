use Rattle.std.specs.Fmt.{decimal}
use Rattle.std.specs.Prelude.{codes}
use Rattle.zvt_text.specs.Bytes.{hex_of}
use Rattle.zvt_show.proofs.TextLemmas.{adds_ok, four_parts}
use Rattle.zvt_show.proofs.diagnostics.note.put_place.Goals as goal

pub returns : goal.returns
returns c =
    four_parts c.hexadecimal.result c.args.text.now c.word.new.self c.number.new.self c.word-2.new.self c.hexadecimal.new.text (codes " refused at ") (decimal c.args.place) (codes ", byte ") (hex_of c.args.byte) c.in_ok-word.ensures c.in_ok-number.ensures c.in_ok-word-2.ensures (adds_ok c.hexadecimal.result c.word-2.new.self c.hexadecimal.new.text (hex_of c.args.byte) c.hexadecimal.ensures)
