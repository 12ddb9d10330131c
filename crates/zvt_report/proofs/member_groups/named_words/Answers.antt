use Rattle.std.proofs.Common.{append_assoc}
use Rattle.zvt_report.specs.GroupObjects.{named_words}
use Rattle.zvt_report.proofs.TextLemmas.{adds_completely}
use Rattle.zvt_report.proofs.member_groups.named_words.Goals as goal

pub returns : goal.returns
unfolding named_words
returns c =
    adds_completely c.word-3.result c.word-2.new.self c.word-3.new.self _ _
    (simp (c.in_ok-word-2.ensures, c.as_bytes.ensures.value, c.name.ensures, c.in_ok-word.ensures, append_assoc)) c.word-3.ensures
