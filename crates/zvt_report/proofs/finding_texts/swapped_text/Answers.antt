use Rattle.std.proofs.Common.{append_assoc}
use Rattle.zvt_report.proofs.TextLemmas.{adds_completely}
use Rattle.zvt_report.proofs.finding_texts.swapped_text.Goals as goal

pub returns : goal.returns
returns c =
    adds_completely c.word-2.result c.count.new.text c.word-2.new.self _ _
    (simp (c.in_ok-count.ensures, c.in_ok-word.ensures, append_assoc)) c.word-2.ensures
