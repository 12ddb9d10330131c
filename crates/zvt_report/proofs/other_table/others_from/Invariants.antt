use Rattle.std.proofs.Common.{◌≡◌, ◌+◌, ◌++◌, ◌≤◌, length}
use Rattle.zvt_report.specs.OtherTable as table
use Rattle.zvt_report.specs.Places.{no_counts}
use Rattle.zvt_report.proofs.other_table.others_from.Given as goal

abbrev pub invariant-rows : goal.invariant-rows
invariant-rows l = record {
  so_far : l.text ++ table.others_from l.decimals l.book l.messages l.counts l.rest ≡ l.initial.text ++ table.others_from l.decimals l.book l.messages no_counts l.rows;
  left : l.counts.orders + length l.rest ≡ length l.rows;
  payments : l.counts.payments ≤ l.counts.orders;
  entries : l.counts.entries ≤ l.counts.orders;
}

abbrev pub decreases-rows : goal.decreases-rows
decreases-rows l = length l.rest
