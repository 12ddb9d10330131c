use Rattle.std.proofs.Common.{◌≡◌, ◌++◌, length}
use Rattle.zvt_report.specs.Times.{timed_rows}
use Rattle.zvt_report.proofs.times.timed_rows.Given as goal

abbrev pub invariant-rows : goal.invariant-rows
invariant-rows l = timed_rows l.fn.zone l.fn.times l.fn.rows ≡ l.found.items ++ timed_rows l.fn.zone l.fn.times l.rest

abbrev pub decreases-rows : goal.decreases-rows
decreases-rows l = length l.rest
