use Rattle.std.proofs.Common.{◌≡◌, ◌++◌, take}
use Rattle.std.specs.List.{All}
use Rattle.std.specs.Prelude.{flat_map}
use Rattle.zvt_till.specs.SnapshotEncoded.{unclear_bytes, IsUnclear}
use Rattle.zvt_till.proofs.snapshot.encoder.put_rows.Given as goal

abbrev pub invariant-rows : goal.invariant-rows
invariant-rows l = record {
  bytes : l.bytes.items ≡ l.initial.bytes.items ++ flat_map unclear_bytes (take l.row-index l.rows);
  fit : All IsUnclear (take l.row-index l.rows);
}
