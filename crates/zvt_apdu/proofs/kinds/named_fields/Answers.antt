use Rattle.zvt_apdu.proofs.KindLemmas as kinds
use Rattle.zvt_apdu.proofs.kinds.named_fields.Goals as goal

pub returns-then-low : goal.returns-then-low
returns-then-low c = kinds.is_reversal c.args.high c.args.low c.args.first.now c.args.fields c.if-first-eq3.true c.requires.named c.if-low.true c.requires.are_bytes

pub returns-else-low : goal.returns-else-low
returns-else-low c = kinds.is_end_of_day c.args.high c.args.low c.args.first.now c.args.fields c.if-first-eq3.true c.requires.named c.if-low.false c.requires.are_bytes

pub returns-then-high : goal.returns-then-high
returns-then-high c = kinds.is_status c.args.high c.args.low c.args.first.now c.args.fields c.if-first-eq3.false c.requires.named c.if-high.true

pub returns-then-low-2 : goal.returns-then-low-2
returns-then-low-2 c r listed p =
    let q = kinds.is_listed c.args.high c.args.low 0x01 c.args.first.now c.args.fields c.if-first-eq3.false c.requires.named c.if-high.false c.if-low-2.true r listed p in
    record { is_control = q.0; is_content = q.1 }

pub returns-then-low-3 : goal.returns-then-low-3
returns-then-low-3 c r listed p =
    let q = kinds.is_listed c.args.high c.args.low 0x0F c.args.first.now c.args.fields c.if-first-eq3.false c.requires.named c.if-high.false c.if-low-3.true r listed p in
    record { is_control = q.0; is_content = q.1 }

pub returns-then-low-4 : goal.returns-then-low-4
returns-then-low-4 c r listed p =
    let q = kinds.is_listed c.args.high c.args.low 0xB0 c.args.first.now c.args.fields c.if-first-eq3.false c.requires.named c.if-high.false c.if-low-4.true r listed p in
    record { is_control = q.0; is_content = q.1 }

pub returns : goal.returns
returns c r listed p =
    let low = kinds.text_low c.args.high c.args.low c.args.first.now c.if-first-eq3.false c.requires.named c.if-high.false c.if-low-2.false c.if-low-3.false c.if-low-4.false in
    let q = kinds.is_listed c.args.high c.args.low 0xD3 c.args.first.now c.args.fields c.if-first-eq3.false c.requires.named c.if-high.false low r listed p in
    record { is_control = q.0; is_content = q.1 }
