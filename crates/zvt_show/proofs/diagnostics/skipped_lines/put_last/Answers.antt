use Rattle.std.proofs.Common.{◌∷◌, []}
use Rattle.std.specs.Fmt.{decimal}
use Rattle.std.specs.Prelude.{codes}
use Rattle.zvt_show.specs.Notes.{advice}
use Rattle.zvt_show.proofs.TextLemmas.{adds_ok, four_parts}
use Rattle.zvt_show.proofs.diagnostics.skipped_lines.put_last.Goals as goal

pub returns : goal.returns
returns c =
    four_parts c.push.result c.args.text.now c.word.new.self c.number.new.self c.put_advice.new.text c.push.new.self (codes " not read after that, up to line ") (decimal c.args.last) (advice c.args.scope) (10 ∷ []) c.in_ok-word.ensures c.in_ok-number.ensures c.in_ok-put_advice.ensures (adds_ok c.push.result c.put_advice.new.text c.push.new.self (10 ∷ []) c.push.ensures)
