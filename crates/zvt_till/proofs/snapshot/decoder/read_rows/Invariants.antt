use Rattle.std.proofs.Common.{length}
use Rattle.zvt_till.specs.SnapshotEncoded.{unclear_bytes, IsUnclear}
use Rattle.zvt_till.proofs.SnapshotRows.{IsRead}
use Rattle.zvt_till.proofs.snapshot.decoder.read_rows.Given as goal

abbrev pub invariant-rows : goal.invariant-rows
invariant-rows l = IsRead unclear_bytes IsUnclear l.bytes l.rest l.rows.items

abbrev pub decreases-rows : goal.decreases-rows
decreases-rows l = length l.rest
