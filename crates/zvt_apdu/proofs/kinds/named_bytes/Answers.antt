use Rattle.zvt_apdu.proofs.KindLemmas as kinds
use Rattle.zvt_apdu.proofs.kinds.named_bytes.Goals as goal

pub returns-else-high-eq-NACK : goal.returns-else-high-eq-NACK
returns-else-high-eq-NACK c = kinds.is_ack c.args.high c.args.low c.args.first.now c.args.payload.items c.in_default.len_below c.requires.named c.if-high-eq-NACK.false c.requires.are_bytes

pub returns-then-high : goal.returns-then-high
returns-then-high c = kinds.is_intermediate c.args.high c.args.low c.args.first.now c.args.payload.items c.in-len1-up.len_at_least c.requires.named c.if-high.true c.requires.are_bytes

pub returns-then-low : goal.returns-then-low
returns-then-low c = kinds.is_abort c.args.high c.args.low c.args.first.now c.args.payload.items c.in-len1-up.len_at_least c.requires.named c.if-low.true c.requires.are_bytes

pub returns : goal.returns
returns c = kinds.is_print_line c.args.high c.args.low c.args.first.now c.args.payload.items c.in-len1-up.len_at_least c.requires.named c.if-high.false c.if-low.false c.requires.are_bytes
