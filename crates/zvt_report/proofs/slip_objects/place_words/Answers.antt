use Rattle.std.proofs.Common.{append_assoc}
use Rattle.zvt_report.proofs.TextLemmas.{adds_completely}
use Rattle.zvt_report.proofs.slip_objects.place_words.Goals as goal

pub returns : goal.returns
returns c =
    adds_completely c.word-3.result c.order_words.new.text c.word-3.new.self _ _
    (simp (c.in_ok-order_words.ensures, c.in_ok-word-2.ensures, c.in_ok-number-2.ensures, c.in_ok-word.ensures, c.in_ok-number.ensures, c.in_ok-kind_words.ensures, append_assoc)) c.word-3.ensures
