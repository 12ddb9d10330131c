use Rattle.std.proofs.Common.{append_assoc}
use Rattle.zvt_report.proofs.TextLemmas.{adds_completely}
use Rattle.zvt_report.proofs.advices.unclear_advice.Goals as goal

pub returns-in_ok-amount_or_dash-in-Some : goal.returns-in_ok-amount_or_dash-in-Some
returns-in_ok-amount_or_dash-in-Some c =
    adds_completely c.word-in-Some.result c.amount_or_dash.new.text c.word-in-Some.new.self _ _ (simp (c.in_ok-amount_or_dash-in-Some.ensures, c.in_ok-word-in-Some.ensures, c.in-Some.is, append_assoc)) c.word-in-Some.ensures
