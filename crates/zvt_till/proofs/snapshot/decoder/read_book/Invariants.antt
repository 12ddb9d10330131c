use Rattle.std.proofs.Common.{length}
use Rattle.std.specs.List.{All}
use Rattle.zvt_till.specs.SnapshotReading.{HasDoubtOf, HasRowOf}
use Rattle.zvt_till.specs.SnapshotEncoded.{entry_bytes}
use Rattle.zvt_till.proofs.SnapshotRows.{IsRead}
use Rattle.zvt_till.proofs.snapshot.decoder.read_book.Given as goal

abbrev pub invariant-rows : goal.invariant-rows
invariant-rows l = record {
  read : IsRead (entry_bytes l.layout) (HasRowOf l.layout) l.bytes l.rest l.rows.items;
  held : All (λ entry. HasDoubtOf l.layout entry.doubt) l.rows.items;
}

abbrev pub decreases-rows : goal.decreases-rows
decreases-rows l = length l.rest
