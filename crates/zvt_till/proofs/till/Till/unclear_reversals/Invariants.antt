use Rattle.std.proofs.Common.{◌≡◌, ◌≤◌, take}
use Rattle.std.specs.List.{count_by}
use Rattle.zvt_till.specs.Doubts.{is_unclear}
use Rattle.zvt_till.proofs.till.Till.unclear_reversals.Given as goal

abbrev pub invariant-entries : goal.invariant-entries
invariant-entries l =
    record {
      count : l.count ≡ count_by is_unclear (take l.entry-index l.book);
      bound : l.count ≤ l.entry-index;
    }
