use Rattle.std.proofs.Common.{append_assoc}
use Rattle.zvt_report.proofs.TextLemmas.{adds_completely}
use Rattle.zvt_report.proofs.advices.approved_advice.Goals as goal

pub returns-in_ok-approved_receipt-in-Some : goal.returns-in_ok-approved_receipt-in-Some
returns-in_ok-approved_receipt-in-Some c =
    adds_completely c.word-in-Some.result c.approved_receipt.new.text c.word-in-Some.new.self _ _ (simp (c.in_ok-approved_receipt-in-Some.ensures, c.in_ok-word-in-Some.ensures, c.in-Some.is, append_assoc)) c.word-in-Some.ensures

pub returns-in_ok-approved_receipt-in-None : goal.returns-in_ok-approved_receipt-in-None
returns-in_ok-approved_receipt-in-None c =
    adds_completely c.word-in-None-2.result c.approved_receipt-in-None.new.text c.word-in-None-2.new.self _ _ (simp (c.in_ok-approved_receipt-in-None.ensures, c.in_ok-word-in-None.ensures, c.in-None.is, append_assoc)) c.word-in-None-2.ensures
