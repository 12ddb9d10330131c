use Rattle.std.proofs.Common.{append_assoc}
use Rattle.zvt_report.proofs.TextLemmas.{adds_completely}
use Rattle.zvt_report.proofs.sentences.elsewhere_unclear_account.Goals as goal

pub returns : goal.returns
returns c =
    adds_completely c.word-3.result c.reason.new.text c.word-3.new.self _ _ (simp (c.in_ok-reason.ensures, c.in_ok-word-2.ensures, c.in_ok-payment_name.ensures, c.in_ok-word.ensures, append_assoc)) c.word-3.ensures
