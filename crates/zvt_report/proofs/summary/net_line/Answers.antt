use Rattle.std.proofs.Common.{append_assoc}
use Rattle.zvt_report.specs.Summary.{net_line}
use Rattle.zvt_report.proofs.TextLemmas.{adds_completely}
use Rattle.zvt_report.proofs.summary.net_line.Goals as goal

pub returns : goal.returns
unfolding net_line
returns c =
    adds_completely c.push.result c.unit.new.text c.push.new.self _ _
    (simp (c.in_ok-unit.ensures, c.in_ok-amount_column.ensures, c.in_ok-word.ensures, c.decimals_of.ensures, c.net_total.ensures, append_assoc)) c.push.ensures
