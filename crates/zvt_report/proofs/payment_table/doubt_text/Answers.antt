use Rattle.zvt_report.specs.PaymentTable.{doubt_text}
use Rattle.zvt_report.proofs.TextLemmas.{adds_completely}
use Rattle.zvt_report.proofs.payment_table.doubt_text.Goals as goal

pub returns-in-TakenBack : goal.returns-in-TakenBack
unfolding doubt_text
returns-in-TakenBack c =
    adds_completely c.word-in-TakenBack.result c.args.text.now c.word-in-TakenBack.new.self _ _ (simp (c.in-TakenBack.is)) c.word-in-TakenBack.ensures
