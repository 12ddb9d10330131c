use Rattle.std.proofs.Common.{◌≡◌, ◌+◌, ◌++◌, length}
use Rattle.zvt_report.specs.Alike.{repeated_payments}
use Rattle.zvt_report.specs.Looks.{looks, looks_from}
use Rattle.zvt_report.proofs.cases.looks.Given as goal

abbrev pub invariant-rows : goal.invariant-rows
invariant-rows l = record {
  so_far : looks l.fn.book l.fn.closings l.fn.statements l.fn.messages l.fn.rows
      ≡ l.found.items ++ looks_from l.fn.book l.fn.closings l.fn.statements l.fn.messages (repeated_payments l.fn.book l.fn.rows) l.place l.rest;
  left : l.place + length l.rest ≡ length l.fn.rows;
}

abbrev pub decreases-rows : goal.decreases-rows
decreases-rows l = length l.rest
