use Rattle.std.proofs.Common.{append_assoc}
use Rattle.zvt_report.specs.OtherTable.{others_heading}
use Rattle.zvt_report.proofs.TextLemmas.{adds_completely}
use Rattle.zvt_report.proofs.other_table.others_heading.Goals as goal

pub returns : goal.returns
unfolding others_heading
returns c =
    adds_completely c.word-2.result c.fraction_blanks.new.text c.word-2.new.self _ _
    (simp (c.in_ok-fraction_blanks.ensures, c.in_ok-word.ensures, append_assoc)) c.word-2.ensures
