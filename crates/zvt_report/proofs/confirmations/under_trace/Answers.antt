use Rattle.std.proofs.Common.{append_assoc}
use Rattle.zvt_report.proofs.TextLemmas.{completes}
use Rattle.zvt_report.proofs.confirmations.under_trace.Goals as goal

pub returns-in_ok-word-in-Some : goal.returns-in_ok-word-in-Some
returns-in_ok-word-in-Some c =
    completes c.zeros.result c.word.new.self c.zeros.new.text _ _ (simp (c.in_ok-word-in-Some.ensures, c.from.ensures, c.get.ensures.value, c.in-Some.is, append_assoc)) c.zeros.ensures
