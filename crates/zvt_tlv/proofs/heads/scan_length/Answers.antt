use Rattle.std.proofs.Common.{arith, ap, ◌∙◌, ◌+◌}
use Rattle.zvt_grammar.specs.Lengths.{reading_of}
use Rattle.zvt_tlv.specs.Judging.{byte, content}
use Rattle.zvt_tlv.specs.Answers.{role_of_length, after_length_byte}
use Rattle.zvt_tlv.proofs.Reading.{head_room, head_more, head_passed, head_failed, tag_room, opener_found}
use Rattle.zvt_tlv.proofs.heads.scan_length.Goals as goal

pub loop-count-init : goal.loop-count-init
loop-count-init c = record { begins = c.requires.tagged; alive = c.requires.alive }

pub overflow_sub-room-in-loop-count : goal.overflow_sub-room-in-loop-count
overflow_sub-room-in-loop-count c =
    let some = tag_room (reading_of c.args.lengths) c.args.depth c.args.room c.args.tag_size c.args.bytes.now c.args.constructed c.requires in
    omega (arith, head_room (reading_of c.args.lengths) c.args.depth c.args.room (role_of_length c.args.constructed c.loop-count.at) c.args.bytes.now c.loop-count.count c.loop-count.invariant some (omega arith))

pub returns-in-Err : goal.returns-in-Err
returns-in-Err c =
    let some = tag_room (reading_of c.args.lengths) c.args.depth c.args.room c.args.tag_size c.args.bytes.now c.args.constructed c.requires in
    head_failed (reading_of c.args.lengths) c.args.depth c.args.room (role_of_length c.args.constructed c.loop-count.at) c.args.bytes.now c.loop-count.count c.in-Err.why c.loop-count.invariant some (omega arith) (omega (arith, c.type_inv.bytes c.loop-count.count)) (c.in-Err.ensures c.args.depth)

pub returns-in-Ok-Done : goal.returns-in-Ok-Done
returns-in-Ok-Done c =
    let some = tag_room (reading_of c.args.lengths) c.args.depth c.args.room c.args.tag_size c.args.bytes.now c.args.constructed c.requires in
    let e = c.in-Ok-Done.ensures c.args.depth in
    let p = head_passed (reading_of c.args.lengths) c.args.depth c.args.room (role_of_length c.args.constructed c.loop-count.at) c.args.bytes.now c.loop-count.count (content c.args.constructed c.in-Ok-Done.content) c.loop-count.invariant some (omega arith) (omega (arith, c.type_inv.bytes c.loop-count.count)) e.0 (e.1 ∙ ap (after_length_byte c.args.constructed) c.in-Ok-Done.field-0-is) in
    opener_found (reading_of c.args.lengths) c.args.depth c.args.room (c.loop-count.count + 1) c.args.bytes.now c.args.tag_size c.args.constructed c.in-Ok-Done.content c.requires (omega arith) (omega arith) p.0 p.1

pub loop-count-preserved : goal.loop-count-preserved
loop-count-preserved c =
    let some = tag_room (reading_of c.args.lengths) c.args.depth c.args.room c.args.tag_size c.args.bytes.now c.args.constructed c.requires in
    let e = c.in-Ok-More.ensures c.args.depth in
    let p = head_passed (reading_of c.args.lengths) c.args.depth c.args.room (role_of_length c.args.constructed c.loop-count.at) c.args.bytes.now c.loop-count.count (byte (role_of_length c.args.constructed c.in-Ok-More.next)) c.loop-count.invariant some (omega arith) (omega (arith, c.type_inv.bytes c.loop-count.count)) e.0 (e.1 ∙ ap (after_length_byte c.args.constructed) c.in-Ok-More.field-0-is) in
    record { begins = p.1; alive = p.0 }

pub returns : goal.returns
returns c =
    let some = tag_room (reading_of c.args.lengths) c.args.depth c.args.room c.args.tag_size c.args.bytes.now c.args.constructed c.requires in
    head_more (reading_of c.args.lengths) c.args.depth c.args.room (role_of_length c.args.constructed c.loop-count.at) c.args.bytes.now c.loop-count.count c.loop-count.invariant some (omega arith)
