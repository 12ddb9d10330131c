use Rattle.std.proofs.Common.{◌≡◌, ◌≤◌, take}
use Rattle.zvt_report.specs.Sums.{reversed_count}
use Rattle.zvt_report.proofs.sums.reversed_count.Given as goal

abbrev pub invariant-loop-entry : goal.invariant-loop-entry
invariant-loop-entry l = record {
  sum : l.count ≡ reversed_count (take l.entry-index l.book);
  bound : l.count ≤ l.entry-index;
}
