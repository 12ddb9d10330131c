use Rattle.std.proofs.Common.{append_assoc}
use Rattle.zvt_report.specs.PageClosings.{titled_closings}
use Rattle.zvt_report.proofs.TextLemmas.{completes}
use Rattle.zvt_report.proofs.page_closings.titled_closings.Goals as goal

pub returns : goal.returns
unfolding titled_closings
returns c =
    completes c.group_tables.result c.closings_table.new.page c.group_tables.new.page _ _
    (simp (c.in_ok-closings_table.ensures, c.in_ok-leaf.ensures, append_assoc)) c.group_tables.ensures
