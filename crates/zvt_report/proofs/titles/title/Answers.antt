use Rattle.std.proofs.Common.{append_assoc}
use Rattle.zvt_report.proofs.TextLemmas.{completes}
use Rattle.zvt_report.proofs.titles.title.Goals as goal

pub returns-in-ReversalUnclear : goal.returns-in-ReversalUnclear
returns-in-ReversalUnclear c =
    completes c.phrase-in-ReversalUnclear.result c.args.text.now c.phrase-in-ReversalUnclear.new.text _ _ (simp (c.in-ReversalUnclear.is, c.asked_of.ensures, append_assoc)) c.phrase-in-ReversalUnclear.ensures

pub returns-in-ReversalRefused : goal.returns-in-ReversalRefused
returns-in-ReversalRefused c =
    completes c.phrase-in-ReversalRefused.result c.args.text.now c.phrase-in-ReversalRefused.new.text _ _ (simp (c.in-ReversalRefused.is, c.asked_of.ensures, append_assoc)) c.phrase-in-ReversalRefused.ensures
