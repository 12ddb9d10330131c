use Rattle.std.proofs.Common.{append_assoc}
use Rattle.zvt_report.specs.FindingTexts.{approval_advice}
use Rattle.zvt_report.proofs.TextLemmas.{adds_completely}
use Rattle.zvt_report.proofs.finding_texts.approval_advice.Goals as goal

pub returns : goal.returns
unfolding approval_advice
returns c =
    adds_completely c.word-2.result c.look_for.new.text c.word-2.new.self _ _
    (simp (c.in_ok-look_for.ensures, c.in_ok-word.ensures, append_assoc)) c.word-2.ensures
