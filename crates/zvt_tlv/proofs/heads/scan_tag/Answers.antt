use Rattle.std.proofs.Common.{arith, ap, ◌∙◌}
use Rattle.zvt_grammar.specs.Lengths.{reading_of}
use Rattle.zvt_tlv.specs.Answers.{role_of_tag, after_tag_byte}
use Rattle.zvt_tlv.specs.Judging.{byte, first_length}
use Rattle.zvt_tlv.proofs.Reading.{head_start, head_room, head_more, head_passed, head_failed}
use Rattle.zvt_tlv.proofs.heads.scan_tag.Goals as goal

pub loop-count-init : goal.loop-count-init
loop-count-init c = head_start (reading_of c.args.lengths) c.args.depth c.args.room c.args.bytes.now c.requires.filled

pub overflow_sub-room-in-loop-count : goal.overflow_sub-room-in-loop-count
overflow_sub-room-in-loop-count c =
    omega (arith, head_room (reading_of c.args.lengths) c.args.depth c.args.room (role_of_tag c.loop-count.at) c.args.bytes.now c.loop-count.count c.loop-count.invariant c.requires.some (omega arith))

pub returns-in-Err : goal.returns-in-Err
returns-in-Err c =
    head_failed (reading_of c.args.lengths) c.args.depth c.args.room (role_of_tag c.loop-count.at) c.args.bytes.now c.loop-count.count c.in-Err.why c.loop-count.invariant c.requires.some (omega arith) (omega (arith, c.type_inv.bytes c.loop-count.count)) c.in-Err.ensures

pub returns-in-Ok-Done : goal.returns-in-Ok-Done
returns-in-Ok-Done c =
    let e = c.in-Ok-Done.ensures in
    let p = head_passed (reading_of c.args.lengths) c.args.depth c.args.room (role_of_tag c.loop-count.at) c.args.bytes.now c.loop-count.count (byte (first_length c.in-Ok-Done.constructed)) c.loop-count.invariant c.requires.some (omega arith) (omega (arith, c.type_inv.bytes c.loop-count.count)) e.0 (e.1 ∙ ap after_tag_byte c.in-Ok-Done.field-0-is) in
    record { present = omega arith; tagged = p.1; alive = p.0 }

pub loop-count-preserved : goal.loop-count-preserved
loop-count-preserved c =
    let e = c.in-Ok-More.ensures in
    let p = head_passed (reading_of c.args.lengths) c.args.depth c.args.room (role_of_tag c.loop-count.at) c.args.bytes.now c.loop-count.count (byte (role_of_tag c.in-Ok-More.next)) c.loop-count.invariant c.requires.some (omega arith) (omega (arith, c.type_inv.bytes c.loop-count.count)) e.0 (e.1 ∙ ap after_tag_byte c.in-Ok-More.field-0-is) in
    record { begins = p.1; alive = p.0 }

pub returns : goal.returns
returns c =
    head_more (reading_of c.args.lengths) c.args.depth c.args.room (role_of_tag c.loop-count.at) c.args.bytes.now c.loop-count.count c.loop-count.invariant c.requires.some (omega arith)
