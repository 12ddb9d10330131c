use Rattle.std.proofs.Common.{append_assoc}
use Rattle.zvt_report.proofs.TextLemmas.{adds_completely}
use Rattle.zvt_report.proofs.finding_texts.finding_title.Goals as goal

pub returns-in_ok-count-in-MoreRefused : goal.returns-in_ok-count-in-MoreRefused
returns-in_ok-count-in-MoreRefused c =
    rw c.in-MoreRefused.is
    (adds_completely c.word-in-MoreRefused.result c.count.new.text c.word-in-MoreRefused.new.self _ _
    (simp (c.in_ok-count-in-MoreRefused.ensures, append_assoc)) c.word-in-MoreRefused.ensures)
