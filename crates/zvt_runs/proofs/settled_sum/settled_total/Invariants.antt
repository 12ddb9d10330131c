use Rattle.std.proofs.Common.{◌≡◌, ◌*◌, ◌≤◌, take}
use Rattle.zvt_runs.specs.SettledSum.{settled_total}
use Rattle.zvt_runs.proofs.settled_sum.settled_total.Given as goal

abbrev pub invariant-loop-settlement : goal.invariant-loop-settlement
invariant-loop-settlement l =
    record {
      sum : l.total ≡ settled_total l.book l.unclear (take l.settlement-index l.settled);
      bound : l.total ≤ l.settlement-index * 1000000000000;
    }
