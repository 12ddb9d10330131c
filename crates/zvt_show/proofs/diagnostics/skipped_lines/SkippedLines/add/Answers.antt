use Rattle.std.proofs.Common.{sym, ◌∙◌}
use Rattle.zvt_show.proofs.CountLemmas.{terminal_more, till_more}
use Rattle.zvt_show.proofs.diagnostics.skipped_lines.SkippedLines.add.Goals as goal

pub returns-in-FromTill : goal.returns-in-FromTill
returns-in-FromTill c = λ events counts.
    let is = sym c.counted_side.ensures ∙ c.in-FromTill.is in
    rw c.add.ensures (till_more c.args.scope c.args.self.now events c.args.line c.args.from is counts)

pub returns-in-FromTerminal : goal.returns-in-FromTerminal
returns-in-FromTerminal c = λ events counts.
    let is = sym c.counted_side.ensures ∙ c.in-FromTerminal.is in
    rw c.add-in-FromTerminal.ensures (terminal_more c.args.scope c.args.self.now events c.args.line c.args.from is counts)
