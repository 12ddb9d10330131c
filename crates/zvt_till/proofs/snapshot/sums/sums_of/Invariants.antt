use Rattle.std.proofs.Common.{◌≡◌, ◌<◌, take}
use Rattle.zvt_till.specs.SnapshotSums.{sums_of}
use Rattle.zvt_till.proofs.snapshot.sums.sums_of.Given as goal

abbrev pub invariant-bytes : goal.invariant-bytes
invariant-bytes l = record {
  sums : (l.first, l.second) ≡ sums_of (take l.byte-index l.bytes);
  first : l.first < 100000000;
  second : l.second < 100000000;
}
