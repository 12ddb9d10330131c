use Rattle.std.proofs.Common.{append_assoc}
use Rattle.zvt_report.proofs.TextLemmas.{completes}
use Rattle.zvt_report.proofs.sentences.undone_account.Goals as goal

pub returns : goal.returns
returns c =
    completes c.later_part.result c.push.new.self c.later_part.new.text _ _ (simp (c.in_ok-push.ensures, c.in_ok-reason.ensures, c.in_ok-word-2.ensures, c.in_ok-undone_part.ensures, c.in_ok-word.ensures, append_assoc)) c.later_part.ensures
