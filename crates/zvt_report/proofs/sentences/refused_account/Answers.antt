use Rattle.std.proofs.Common.{append_assoc}
use Rattle.zvt_report.proofs.TextLemmas.{adds_completely}
use Rattle.zvt_report.proofs.sentences.refused_account.Goals as goal

pub returns : goal.returns
returns c =
    adds_completely c.push.result c.reason.new.text c.push.new.self _ _ (simp (c.in_ok-reason.ensures, c.in_ok-word.ensures, c.in_ok-entry_part.ensures, c.in_ok-phrase.ensures, append_assoc)) c.push.ensures
