use Rattle.std.proofs.Common.{arith}
use Rattle.zvt_field.proofs.ListSizes.{next_total, total_small, total_all}
use Rattle.zvt_field.proofs.sizes.list_size.Goals as goal

pub overflow_add-total : goal.overflow_add-total
overflow_add-total c =
    omega (arith, total_small c.args.fields.now c.loop-field.field-index c.field-item.result c.loop-field.total c.field_size-total.result c.requires (omega arith) c.field-item.is c.loop-field.invariant c.field_size-total.ensures.size)

pub loop-field-preserved : goal.loop-field-preserved
loop-field-preserved c =
    next_total c.args.fields.now c.loop-field.field-index c.field-item.result c.loop-field.total c.field_size-total.result (omega arith) c.field-item.is c.loop-field.invariant c.field_size-total.ensures.size

pub returns : goal.returns
returns c = total_all c.args.fields.now c.loop-field.field-index c.loop-field.total c.requires (omega arith) c.loop-field.invariant
