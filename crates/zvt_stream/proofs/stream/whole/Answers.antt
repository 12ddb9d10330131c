use Rattle.zvt_grammar.specs.Lengths.{reading_of}
use Rattle.zvt_stream.proofs.WholeLemmas.{not_more, not_refused, is_whole}
use Rattle.zvt_stream.proofs.stream.whole.Goals as goal

pub unreachable-requires : goal.unreachable-requires
unreachable-requires c = let told = rw c.in-Ok-More.field-0-is at c.in-Ok-More.ensures in not_more (reading_of c.args.lengths) c.args.bytes.now c.requires told

pub unreachable-requires-in-Ok-Refused : goal.unreachable-requires-in-Ok-Refused
unreachable-requires-in-Ok-Refused c =
    let told = rw c.in-Ok-Refused.field-0-is at c.in-Ok-Refused.ensures in not_refused (reading_of c.args.lengths) c.args.bytes.now c.in-Ok-Refused.field-0-0 c.in-Ok-Refused.field-0-1 c.requires told

pub returns-in-Ok-Whole : goal.returns-in-Ok-Whole
returns-in-Ok-Whole c = let told = rw c.in-Ok-Whole.field-0-is at c.in-Ok-Whole.ensures in is_whole (reading_of c.args.lengths) c.args.bytes.now c.in-Ok-Whole.apdu c.in-Ok-Whole.field-0-0-1 c.requires told
