use Rattle.std.proofs.Common.{◌++◌, ◌∙◌, List, ℕ, ap, codes, append_assoc}
use Rattle.zvt_report.specs.GroupTable.{group_lines, headed_lines}
use Rattle.zvt_report.proofs.TextLemmas.{completes}
use Rattle.zvt_report.proofs.group_table.headed_lines.Goals as goal

pub returns : goal.returns
unfolding headed_lines
returns c =
    let lines = group_lines c.args.decimals c.args.groups.now in
    completes c.group_lines.result c.word.new.self c.group_lines.new.text lines _
    (ap (λ (l : List ℕ). l ++ lines) c.in_ok-word.ensures ∙ append_assoc c.args.text.now (codes "\n  Terminal by card  Count         Amount\n") lines) c.group_lines.ensures
