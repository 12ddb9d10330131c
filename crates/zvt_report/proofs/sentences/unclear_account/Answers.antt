use Rattle.std.proofs.Common.{append_assoc}
use Rattle.zvt_report.proofs.TextLemmas.{completes}
use Rattle.zvt_report.proofs.sentences.unclear_account.Goals as goal

pub returns : goal.returns
returns c =
    completes c.later_part.result c.word.new.self c.later_part.new.text _ _ (simp (c.in_ok-word.ensures, c.in_ok-reason.ensures, c.in_ok-phrase.ensures, append_assoc)) c.later_part.ensures
