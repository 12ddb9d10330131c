use Rattle.std.proofs.Common.{◌≡◌, ◌+◌, ◌≤◌, length}
use Rattle.zvt_report.specs.Places.{payment_from, payment_of}
use Rattle.zvt_report.proofs.places.payment_of.Given as goal

abbrev pub invariant-rows : goal.invariant-rows
invariant-rows l = record {
  so_far : payment_of l.fn.place l.fn.rows ≡ payment_from l.counts l.fn.place l.rest;
  left : l.counts.orders + length l.rest ≡ length l.fn.rows;
  payments : l.counts.payments ≤ l.counts.orders;
  entries : l.counts.entries ≤ l.counts.orders;
}

abbrev pub decreases-rows : goal.decreases-rows
decreases-rows l = length l.rest
