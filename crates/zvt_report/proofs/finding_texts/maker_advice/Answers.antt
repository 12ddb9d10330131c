use Rattle.std.proofs.Common.{append_assoc}
use Rattle.zvt_report.proofs.TextLemmas.{adds_completely}
use Rattle.zvt_report.proofs.finding_texts.maker_advice.Goals as goal

pub returns : goal.returns
returns c =
    adds_completely c.word-3.result c.word-2.new.self c.word-3.new.self _ _
    (simp (c.in_ok-word-2.ensures, c.in_ok-word.ensures, c.side_name.ensures, append_assoc)) c.word-3.ensures
