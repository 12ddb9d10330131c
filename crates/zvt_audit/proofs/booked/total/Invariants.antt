use Rattle.std.proofs.Common.{◌≡◌, ◌*◌, ◌≤◌, take}
use Rattle.zvt_till.specs.Judging.{rows_value}
use Rattle.zvt_audit.specs.Booked.{total}
use Rattle.zvt_audit.proofs.booked.total.Given as goal

abbrev pub invariant-loop-row : goal.invariant-loop-row
invariant-loop-row l = record {
  sum : l.total ≡ total (rows_value (take l.row-index l.rows));
  bound : l.total ≤ l.row-index * 1000000000000;
}
