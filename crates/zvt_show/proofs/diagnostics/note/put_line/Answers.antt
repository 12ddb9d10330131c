use Rattle.std.specs.Fmt.{decimal}
use Rattle.std.specs.Prelude.{codes}
use Rattle.zvt_show.proofs.TextLemmas.{adds_ok, three_parts}
use Rattle.zvt_show.proofs.diagnostics.note.put_line.Goals as goal

pub returns : goal.returns
returns c =
    three_parts c.word-2.result c.args.text.now c.word.new.self c.number.new.self c.word-2.new.self (codes "zvt: line ") (decimal c.args.line) (codes " of the trace: ") c.in_ok-word.ensures c.in_ok-number.ensures (adds_ok c.word-2.result c.number.new.self c.word-2.new.self (codes " of the trace: ") c.word-2.ensures)
