use Rattle.std.proofs.Common.{◌≡◌, ◌*◌, ◌≤◌, take}
use Rattle.zvt_report.specs.Laws.{taken_back}
use Rattle.zvt_report.proofs.sums.taken_back.Given as goal

abbrev pub invariant-loop-entry : goal.invariant-loop-entry
invariant-loop-entry l = record {
  sum : l.total ≡ taken_back (take l.entry-index l.book);
  bound : l.total ≤ l.entry-index * 1000000000000;
}
