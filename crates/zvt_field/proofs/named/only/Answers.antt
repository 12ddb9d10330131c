use Rattle.std.proofs.Common.{arith}
use Rattle.zvt_field.proofs.NamedLemmas.{found_two, some_copied}
use Rattle.zvt_field.proofs.named.only.Goals as goal

pub returns-then-is_some : goal.returns-then-is_some
returns-then-is_some c =
    let g = some_copied c.loop-field.found c.if-is_some.ensures in
    found_two c.args.bmp c.list-field-items.result.now c.args.fields.now c.loop-field.field-index c.bmp.result c.field-item.result g.0 c.loop-field.found c.loop-field.invariant c.list-field-items.ensures.list (omega arith)
    c.field-item.is c.bmp.ensures c.if-bmp.true g.1
