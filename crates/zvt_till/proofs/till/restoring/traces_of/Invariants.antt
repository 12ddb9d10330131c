use Rattle.std.proofs.Common.{◌≡◌, true, take}
use Rattle.zvt_till.specs.UsedTraces.{has_capacity, AreTracesOf}
use Rattle.zvt_till.specs.Restoring.{OnceBelow}
use Rattle.zvt_till.proofs.till.restoring.traces_of.Given as goal

abbrev pub invariant-rows : goal.invariant-rows
invariant-rows l = record {
  room : has_capacity l.used ≡ true;
  traces : AreTracesOf l.used (take l.entry-index l.book);
  once : OnceBelow l.entry-index l.book;
}
