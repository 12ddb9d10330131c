use Rattle.std.proofs.Common.{append_assoc}
use Rattle.zvt_report.specs.CloseTable.{closing_text}
use Rattle.zvt_report.proofs.TextLemmas.{completes}
use Rattle.zvt_report.proofs.close_table.closing_text.Goals as goal

pub returns : goal.returns
unfolding closing_text
returns c =
    completes c.explained_line.result c.differs_line.new.text c.explained_line.new.text _ _
    (simp (c.in_ok-differs_line.ensures, c.in_ok-book_line.ensures, c.in_ok-terminal_line.ensures, c.in_ok-lines_part.ensures, c.in_ok-word.ensures, append_assoc)) c.explained_line.ensures
