use Rattle.std.proofs.Common.{append_assoc}
use Rattle.zvt_report.specs.PageGroups.{groups_table}
use Rattle.zvt_report.proofs.TextLemmas.{completes}
use Rattle.zvt_report.proofs.page_groups.groups_table.Goals as goal

pub returns : goal.returns
unfolding groups_table
returns c =
    completes c.table_end.result c.group_rows.new.page c.table_end.new.page _ _
    (simp (c.in_ok-group_rows.ensures, c.in_ok-table_body.ensures, c.in_ok-group_columns.ensures, c.in_ok-table_start.ensures, append_assoc)) c.table_end.ensures
