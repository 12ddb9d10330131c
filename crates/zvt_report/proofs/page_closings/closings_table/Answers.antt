use Rattle.std.proofs.Common.{append_assoc}
use Rattle.zvt_report.specs.PageClosings.{closings_table}
use Rattle.zvt_report.proofs.TextLemmas.{completes}
use Rattle.zvt_report.proofs.page_closings.closings_table.Goals as goal

pub returns : goal.returns
unfolding closings_table
returns c =
    completes c.table_end.result c.closing_rows.new.page c.table_end.new.page _ _
    (simp (c.in_ok-closing_rows.ensures, c.in_ok-table_body.ensures, c.in_ok-close_columns.ensures, c.in_ok-table_start.ensures, append_assoc)) c.table_end.ensures
