use Rattle.zvt_tlv.proofs.SizedReading.{shortest_start}
use Rattle.zvt_tlv.proofs.reader.scan_sized.Goals as goal

pub scan_sized_forest-requires-clause-begun : goal.scan_sized_forest-requires-clause-begun
scan_sized_forest-requires-clause-begun c = shortest_start c.args.room c.requires.some c.requires.filled
