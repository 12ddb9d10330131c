use Rattle.std.proofs.Common.{append_assoc}
use Rattle.zvt_report.specs.PageTables.{payments_table}
use Rattle.zvt_report.proofs.TextLemmas.{completes}
use Rattle.zvt_report.proofs.page_tables.payments_table.Goals as goal

pub returns : goal.returns
unfolding payments_table
returns c =
    completes c.table_end.result c.payment_rows.new.page c.table_end.new.page _ _
    (simp (c.in_ok-payment_rows.ensures, c.in_ok-table_body.ensures, c.in_ok-payment_columns.ensures, c.in_ok-table_start.ensures, c.have_times-timed.ensures, append_assoc)) c.table_end.ensures
