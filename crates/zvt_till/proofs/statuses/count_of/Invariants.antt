use Rattle.std.proofs.Common.{◌≡◌, ◌≤◌, take}
use Rattle.zvt_till.specs.ByReceipt.{count_of}
use Rattle.zvt_till.proofs.statuses.count_of.Given as goal

abbrev pub invariant-entries : goal.invariant-entries
invariant-entries l =
    record {
      count : l.count ≡ count_of l.amount (take l.entry-index l.book);
      bound : l.count ≤ l.entry-index;
    }
