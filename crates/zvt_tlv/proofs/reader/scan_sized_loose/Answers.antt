use Rattle.zvt_tlv.proofs.SizedReading.{padded_start}
use Rattle.zvt_tlv.proofs.reader.scan_sized_loose.Goals as goal

pub scan_sized_forest-requires-clause-begun : goal.scan_sized_forest-requires-clause-begun
scan_sized_forest-requires-clause-begun c = padded_start c.args.room c.requires.some
