use Rattle.std.proofs.Common.{◌≡◌, ◌≤◌, take}
use Rattle.zvt_report.specs.Sums.{unclear_reversals}
use Rattle.zvt_report.proofs.sums.unclear_reversals.Given as goal

abbrev pub invariant-loop-entry : goal.invariant-loop-entry
invariant-loop-entry l = record {
  sum : l.count ≡ unclear_reversals (take l.entry-index l.book);
  bound : l.count ≤ l.entry-index;
}
