use Rattle.std.proofs.Common.{append_assoc}
use Rattle.zvt_report.specs.Summary.{taken_back_line}
use Rattle.zvt_report.proofs.TextLemmas.{adds_completely}
use Rattle.zvt_report.proofs.summary.taken_back_line.Goals as goal

pub returns : goal.returns
unfolding taken_back_line
returns c =
    adds_completely c.push.result c.count.new.text c.push.new.self _ _ (simp (c.in_ok-count.ensures, c.reversed_count.ensures, c.in_ok-word-2.ensures, c.in_ok-amount_column.ensures, c.minus.ensures, c.taken_back-taken.ensures, c.decimals_of.ensures, c.in_ok-word.ensures, append_assoc)) c.push.ensures
