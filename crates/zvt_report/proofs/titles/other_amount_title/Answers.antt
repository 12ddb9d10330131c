use Rattle.std.proofs.Common.{append_assoc}
use Rattle.zvt_report.proofs.TextLemmas.{adds_completely}
use Rattle.zvt_report.proofs.titles.other_amount_title.Goals as goal

pub returns : goal.returns
returns c =
    adds_completely c.word.result c.amount_or_dash.new.text c.word.new.self _ _ (simp (c.in_ok-amount_or_dash.ensures, c.approved_of.ensures, c.in_ok-phrase.ensures, append_assoc)) c.word.ensures
