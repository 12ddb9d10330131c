use Rattle.std.proofs.Common.{append_assoc}
use Rattle.zvt_report.specs.FindingTexts.{approval_text}
use Rattle.zvt_report.proofs.TextLemmas.{adds_completely}
use Rattle.zvt_report.proofs.finding_texts.approval_text.Goals as goal

pub returns : goal.returns
unfolding approval_text
returns c =
    adds_completely c.word-3.result c.trace_part.new.text c.word-3.new.self _ _
    (simp (c.in_ok-trace_part.ensures, c.in_ok-amount_part.ensures, c.in_ok-word-2.ensures, c.in_ok-number.ensures, c.in_ok-word.ensures, append_assoc)) c.word-3.ensures
