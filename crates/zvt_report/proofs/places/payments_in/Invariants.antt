use Rattle.std.proofs.Common.{◌≡◌, ◌≤◌, take}
use Rattle.zvt_report.specs.Places.{payments_in}
use Rattle.zvt_report.proofs.places.payments_in.Given as goal

abbrev pub invariant-loop-row : goal.invariant-loop-row
invariant-loop-row l = record {
  sum : l.count ≡ payments_in (take l.row-index l.rows);
  bound : l.count ≤ l.row-index;
}
