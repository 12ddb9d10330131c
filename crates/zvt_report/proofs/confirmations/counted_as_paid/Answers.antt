use Rattle.std.proofs.Common.{append_assoc}
use Rattle.zvt_report.specs.Phrases.{counted_as_paid}
use Rattle.zvt_report.proofs.TextLemmas.{adds_completely}
use Rattle.zvt_report.proofs.confirmations.counted_as_paid.Goals as goal

pub returns-in_ok-number-in-Some : goal.returns-in_ok-number-in-Some
unfolding counted_as_paid
returns-in_ok-number-in-Some c =
    adds_completely c.word-in-Some.result c.number.new.self c.word-in-Some.new.self _ _ (simp (c.in_ok-number-in-Some.ensures, c.in_ok-word-in-Some.ensures, c.in-Some.is, append_assoc)) c.word-in-Some.ensures
