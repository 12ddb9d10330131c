use Rattle.std.proofs.Common.{append_assoc}
use Rattle.zvt_report.proofs.TextLemmas.{completes}
use Rattle.zvt_report.proofs.sentences.undone_part.Goals as goal

pub returns : goal.returns
returns c =
    completes c.under_trace.result c.word.new.self c.under_trace.new.text _ _ (simp (c.in_ok-word.ensures, c.in_ok-approval_part.ensures, c.in_ok-amount_or_dash.ensures, c.approved_of.ensures, append_assoc)) c.under_trace.ensures
