use Rattle.std.proofs.Common.{append_assoc}
use Rattle.zvt_report.specs.PageTables.{others_table}
use Rattle.zvt_report.proofs.TextLemmas.{completes}
use Rattle.zvt_report.proofs.page_others.others_table.Goals as goal

pub returns : goal.returns
unfolding others_table
returns c =
    completes c.table_end.result c.other_rows.new.page c.table_end.new.page _ _
    (simp (c.in_ok-other_rows.ensures, c.in_ok-table_body.ensures, c.in_ok-other_columns.ensures, c.in_ok-table_start.ensures, c.have_times-timed.ensures, append_assoc)) c.table_end.ensures
