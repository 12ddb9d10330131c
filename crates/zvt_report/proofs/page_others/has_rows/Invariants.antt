use Rattle.std.proofs.Common.{◌≡◌, ◌+◌, length}
use Rattle.zvt_report.specs.PageTables as tables
use Rattle.zvt_report.proofs.page_others.has_rows.Given as goal

abbrev pub invariant-rows : goal.invariant-rows
invariant-rows l = record {
  so_far : tables.has_rows l.messages l.place l.rest ≡ tables.has_rows l.messages 0 l.rows;
  left : l.place + length l.rest ≡ length l.rows;
}

abbrev pub decreases-rows : goal.decreases-rows
decreases-rows l = length l.rest
