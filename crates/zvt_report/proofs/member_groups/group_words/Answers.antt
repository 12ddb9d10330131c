use Rattle.std.proofs.Common.{append_assoc}
use Rattle.zvt_report.proofs.TextLemmas.{adds_completely}
use Rattle.zvt_report.proofs.member_groups.group_words.Goals as goal

pub returns : goal.returns
returns c =
    adds_completely c.word-2.result c.number-2.new.self c.word-2.new.self _ _
    (simp (c.in_ok-number-2.ensures, c.in_ok-word.ensures, c.in_ok-number.ensures, c.in_ok-named_words.ensures, append_assoc)) c.word-2.ensures
