use Rattle.std.proofs.Common.{◌≡◌, ◌+◌, ◌*◌, ◌≤◌, ◌++◌, length}
use Rattle.zvt_report.specs.Closings as list
use Rattle.zvt_report.proofs.closings.closings.Given as goal

abbrev pub invariant-rows : goal.invariant-rows
invariant-rows l = record {
  so_far : list.closings l.fn.book l.fn.statements l.fn.messages l.fn.rows
      ≡ l.found.items ++ list.closings_from l.fn.book l.fn.statements l.fn.messages l.fn.rows l.place l.sums l.items.items l.rest;
  left : l.place + length l.rest ≡ length l.fn.rows;
  booked : l.sums.booked ≤ l.place * 1000000000000;
  taken : l.sums.taken_back ≤ l.place * 1000000000000;
}

abbrev pub decreases-rows : goal.decreases-rows
decreases-rows l = length l.rest
