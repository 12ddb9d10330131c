use Rattle.std.proofs.Common.{◌≡◌, ◌*◌, ◌≤◌, take}
use Rattle.zvt_report.specs.Sums.{unclear_total}
use Rattle.zvt_report.proofs.sums.unclear_total.Given as goal

abbrev pub invariant-loop-amount : goal.invariant-loop-amount
invariant-loop-amount l = record {
  sum : l.total ≡ unclear_total (take l.amount-index l.unclear);
  bound : l.total ≤ l.amount-index * 1000000000000;
}
