use Rattle.std.proofs.Common.{◌≡◌, ◌+◌, ◌++◌, ◌≤◌, length}
use Rattle.zvt_report.specs.Objects.{rows_json}
use Rattle.zvt_report.specs.Places.{no_counts}
use Rattle.zvt_report.proofs.objects.order_rows.Given as goal

abbrev pub invariant-rows : goal.invariant-rows
invariant-rows l = record {
  so_far : l.text ++ rows_json l.fn.books l.fn.messages l.fn.closings l.counts l.rest ≡ l.initial.text ++ rows_json l.fn.books l.fn.messages l.fn.closings no_counts l.fn.books.orders;
  left : l.counts.orders + length l.rest ≡ length l.fn.books.orders;
  payments : l.counts.payments ≤ l.counts.orders;
  entries : l.counts.entries ≤ l.counts.orders;
}

abbrev pub decreases-rows : goal.decreases-rows
decreases-rows l = length l.rest
