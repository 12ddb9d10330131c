use Rattle.std.proofs.Common.{◌≡◌, ◌+◌, ◌++◌, ◌≤◌, length}
use Rattle.zvt_report.specs.Alike.{repeated_from, repeated_payments}
use Rattle.zvt_report.proofs.alike.repeated_payments.Given as goal

abbrev pub invariant-rows : goal.invariant-rows
invariant-rows l = record {
  so_far : repeated_payments l.fn.book l.fn.rows ≡ l.found.items ++ repeated_from l.fn.book l.counts l.seen.items l.rest;
  left : l.counts.orders + length l.rest ≡ length l.fn.rows;
  payments : l.counts.payments ≤ l.counts.orders;
  entries : l.counts.entries ≤ l.counts.orders;
}

abbrev pub decreases-rows : goal.decreases-rows
decreases-rows l = length l.rest
