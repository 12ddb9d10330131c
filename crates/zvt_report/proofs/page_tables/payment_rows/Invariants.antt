use Rattle.std.proofs.Common.{◌≡◌, ◌+◌, ◌++◌, ◌≤◌, length}
use Rattle.zvt_page.specs.Html.{render}
use Rattle.zvt_report.specs.PageTables as tables
use Rattle.zvt_report.specs.Places.{no_counts}
use Rattle.zvt_report.proofs.page_tables.payment_rows.Given as goal

abbrev pub invariant-rows : goal.invariant-rows
invariant-rows l = record {
  so_far : l.page ++ render (tables.payment_rows l.timed l.decimals l.book l.counts l.rest) ≡ l.initial.page ++ render (tables.payment_rows l.timed l.decimals l.book no_counts l.rows);
  left : l.counts.orders + length l.rest ≡ length l.rows;
  payments : l.counts.payments ≤ l.counts.orders;
  entries : l.counts.entries ≤ l.counts.orders;
}

abbrev pub decreases-rows : goal.decreases-rows
decreases-rows l = length l.rest
