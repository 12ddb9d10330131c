use Rattle.std.proofs.Common.{append_assoc}
use Rattle.zvt_report.proofs.TextLemmas.{adds_completely}
use Rattle.zvt_report.proofs.confirmations.unless_earlier.Goals as goal

pub returns-in_ok-word-in-Some : goal.returns-in_ok-word-in-Some
returns-in_ok-word-in-Some c =
    adds_completely c.hexadecimal.result c.word.new.self c.hexadecimal.new.text _ _ (simp (c.in_ok-word-in-Some.ensures, c.in-Some.is, append_assoc)) c.hexadecimal.ensures

pub returns-in-None : goal.returns-in-None
returns-in-None c =
    adds_completely c.word-in-None.result c.args.text.now c.word-in-None.new.self _ _ (simp (c.in-None.is)) c.word-in-None.ensures
