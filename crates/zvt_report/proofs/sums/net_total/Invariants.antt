use Rattle.std.proofs.Common.{◌≡◌, ◌*◌, ◌≤◌, take}
use Rattle.zvt_till.specs.Marks.{total}
use Rattle.zvt_report.proofs.sums.net_total.Given as goal

abbrev pub invariant-loop-entry : goal.invariant-loop-entry
invariant-loop-entry l = record {
  sum : l.total ≡ total (take l.entry-index l.book);
  bound : l.total ≤ l.entry-index * 1000000000000;
}
