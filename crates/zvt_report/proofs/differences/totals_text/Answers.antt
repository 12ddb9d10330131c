use Rattle.std.proofs.Common.{append_assoc}
use Rattle.zvt_report.specs.Differences.{totals_text}
use Rattle.zvt_report.proofs.TextLemmas.{adds_completely}
use Rattle.zvt_report.proofs.differences.totals_text.Goals as goal

pub returns : goal.returns
unfolding totals_text
returns c =
    adds_completely c.push.result c.amount.new.text c.push.new.self _ _
    (simp (c.in_ok-amount.ensures, c.close_distance.ensures, c.in_ok-word-3.ensures, c.in_ok-difference_text.ensures, c.in_ok-word-2.ensures, c.in_ok-stated_text.ensures, c.in_ok-word.ensures, append_assoc)) c.push.ensures
