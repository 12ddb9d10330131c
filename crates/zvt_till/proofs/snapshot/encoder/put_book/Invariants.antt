use Rattle.std.proofs.Common.{◌≡◌, ◌++◌, take}
use Rattle.std.specs.List.{All}
use Rattle.std.specs.Prelude.{flat_map}
use Rattle.zvt_till.specs.SnapshotEncoded.{entry_bytes, IsEntry}
use Rattle.zvt_till.proofs.snapshot.encoder.put_book.Given as goal

abbrev pub invariant-rows : goal.invariant-rows
invariant-rows l = record {
  bytes : l.bytes.items ≡ l.initial.bytes.items ++ flat_map (entry_bytes l.layout) (take l.entry-index l.book);
  fit : All IsEntry (take l.entry-index l.book);
}
