use Rattle.std.proofs.Common.{arith, length}
use Rattle.zvt_field.proofs.Writing.{puts_next, room_next, room_all, puts_all}
use Rattle.zvt_field.proofs.writer.write_into.Goals as goal

pub write_field-at-requires : goal.write_field-at-requires
write_field-at-requires c =
    (room_next c.list-field-items.result.now c.loop-field.field-index c.field-item.result c.args.out.now c.loop-field.out c.loop-field.at (omega arith) c.field-item.is
    (room_all c.list-field-items.result.now c.args.fields.now (length c.args.out.now) c.list-field-items.ensures.spelled c.list-field-items.ensures.list c.requires) c.loop-field.auto.out c.loop-field.invariant).1

pub loop-field-preserved : goal.loop-field-preserved
loop-field-preserved c =
    puts_next c.list-field-items.result.now c.loop-field.field-index c.field-item.result c.args.out.now c.loop-field.out c.write_field-at.new.out c.loop-field.at c.write_field-at.result (omega arith) c.field-item.is
    c.loop-field.invariant c.write_field-at.ensures

pub returns : goal.returns
returns c bytes s =
    puts_all c.list-field-items.result.now c.args.fields.now c.loop-field.field-index c.loop-field.at bytes c.args.out.now c.loop-field.out c.list-field-items.ensures.list (omega arith) c.loop-field.invariant s
