use Rattle.std.proofs.Common.{append_assoc}
use Rattle.zvt_report.proofs.TextLemmas.{adds_completely}
use Rattle.zvt_report.proofs.advices.other_amount_advice.Goals as goal

pub returns : goal.returns
returns c =
    adds_completely c.word-3.result c.approved_receipt.new.text c.word-3.new.self _ _ (simp (c.in_ok-approved_receipt.ensures, c.in_ok-word-2.ensures, c.in_ok-amount_or_dash.ensures, c.approved_of.ensures, c.in_ok-word.ensures, append_assoc)) c.word-3.ensures
