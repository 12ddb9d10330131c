use Rattle.std.proofs.Common.{◌≡◌, ◌+◌, ◌++◌, length}
use Rattle.zvt_report.specs.Settling.{settled_from}
use Rattle.zvt_report.proofs.settling.settled_rows.Given as goal

abbrev pub invariant-rows : goal.invariant-rows
invariant-rows l = record {
  so_far : settled_from l.fn.statements 0 l.fn.rows ≡ l.found.items ++ settled_from l.fn.statements l.place l.rest;
  left : l.place + length l.rest ≡ length l.fn.rows;
}

abbrev pub decreases-rows : goal.decreases-rows
decreases-rows l = length l.rest
