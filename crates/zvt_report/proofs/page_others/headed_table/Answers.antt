use Rattle.std.proofs.Common.{append_assoc}
use Rattle.zvt_report.specs.PageTables.{headed_table}
use Rattle.zvt_report.proofs.TextLemmas.{completes}
use Rattle.zvt_report.proofs.page_others.headed_table.Goals as goal

pub returns : goal.returns
unfolding headed_table
returns c =
    completes c.others_table.result c.leaf.new.text c.others_table.new.page _ _ (simp (c.in_ok-leaf.ensures, append_assoc)) c.others_table.ensures
