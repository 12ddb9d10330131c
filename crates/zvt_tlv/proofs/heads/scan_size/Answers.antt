use Rattle.std.proofs.Common.{arith, ap, ◌∙◌, ◌+◌, true, refl}
use Rattle.zvt_grammar.specs.Lengths.{reading_of}
use Rattle.zvt_tlv.specs.Judging.{byte, content}
use Rattle.zvt_tlv.specs.Answers.{role_of_length, after_length_byte}
use Rattle.zvt_tlv.proofs.SizedReading.{length_room, length_failed, length_passed, length_more, length_found}
use Rattle.zvt_tlv.proofs.heads.scan_size.Goals as goal

pub loop-count-init : goal.loop-count-init
loop-count-init c = record { begins = record { is_tag = (omega arith, refl); is_kind = refl; deep = λ e. omega arith }; alive = c.requires }

pub overflow_sub-room-in-loop-count : goal.overflow_sub-room-in-loop-count
overflow_sub-room-in-loop-count c =
    omega (arith, length_room (reading_of c.args.lengths) c.args.room (role_of_length true c.loop-count.at) c.args.bytes.now c.loop-count.count c.loop-count.invariant (omega arith))

pub returns-in-Err : goal.returns-in-Err
returns-in-Err c =
    length_failed (reading_of c.args.lengths) c.args.room (role_of_length true c.loop-count.at) c.args.bytes.now c.loop-count.count c.in-Err.why c.loop-count.invariant (omega arith) (omega (arith, c.type_inv.bytes c.loop-count.count)) (c.in-Err.ensures 0)

pub returns-in-Ok-Done : goal.returns-in-Ok-Done
returns-in-Ok-Done c =
    let e = c.in-Ok-Done.ensures 0 in
    let p = length_passed (reading_of c.args.lengths) c.args.room (role_of_length true c.loop-count.at) c.args.bytes.now c.loop-count.count (content true c.in-Ok-Done.content) c.loop-count.invariant (omega arith) (omega (arith, c.type_inv.bytes c.loop-count.count)) e.0 (e.1 ∙ ap (after_length_byte true) c.in-Ok-Done.field-0-is) in
    length_found (reading_of c.args.lengths) c.args.room c.args.bytes.now (c.loop-count.count + 1) c.in-Ok-Done.content (omega arith) p.0 p.1

pub loop-count-preserved : goal.loop-count-preserved
loop-count-preserved c =
    let e = c.in-Ok-More.ensures 0 in
    let p = length_passed (reading_of c.args.lengths) c.args.room (role_of_length true c.loop-count.at) c.args.bytes.now c.loop-count.count (byte (role_of_length true c.in-Ok-More.next)) c.loop-count.invariant (omega arith) (omega (arith, c.type_inv.bytes c.loop-count.count)) e.0 (e.1 ∙ ap (after_length_byte true) c.in-Ok-More.field-0-is) in
    record { begins = p.1; alive = p.0 }

pub returns : goal.returns
returns c =
    length_more (reading_of c.args.lengths) c.args.room (role_of_length true c.loop-count.at) c.args.bytes.now c.loop-count.count c.loop-count.invariant (omega arith)
