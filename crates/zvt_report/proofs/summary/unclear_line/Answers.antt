use Rattle.std.proofs.Common.{append_assoc}
use Rattle.zvt_report.specs.Summary.{unclear_line}
use Rattle.zvt_report.proofs.TextLemmas.{adds_completely}
use Rattle.zvt_report.proofs.summary.unclear_line.Goals as goal

pub returns : goal.returns
unfolding unclear_line
returns c =
    adds_completely c.push.result c.count-2.new.text c.push.new.self _ _ (simp (c.in_ok-count-2.ensures, c.unclear_reversals.ensures, c.in_ok-word-3.ensures, c.in_ok-count.ensures, c.in_ok-word-2.ensures, c.in_ok-amount_column.ensures, c.unclear_total.ensures, c.decimals_of.ensures, c.in_ok-word.ensures, append_assoc)) c.push.ensures
