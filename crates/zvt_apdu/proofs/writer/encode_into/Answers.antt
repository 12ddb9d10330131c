use Rattle.std.proofs.Common.{arith}
use Rattle.zvt_apdu.proofs.Writing as writing
use Rattle.zvt_apdu.proofs.writer.encode_into.Goals as goal

pub overflow_add-need : goal.overflow_add-need
overflow_add-need c =
    omega (arith, c.head_size.ensures.most, writing.data_small _ c.args.apdu.now c.data_size-size.result c.message-message.ensures.value c.data_size-size.ensures c.message-message.ensures.spelled)

pub returns-then-out-need : goal.returns-then-out-need
returns-then-out-need c =
    writing.too_short _ c.args.apdu.now c.head_size.result c.data_size-size.result c.args.out.now c.message-message.ensures.value c.data_size-size.ensures c.head_size.ensures.value c.if-out-need.true

pub put_head-at-requires-clause-small : goal.put_head-at-requires-clause-small
put_head-at-requires-clause-small c = writing.data_small _ c.args.apdu.now c.data_size-size.result c.message-message.ensures.value c.data_size-size.ensures c.message-message.ensures.spelled

pub write_data-requires : goal.write_data-requires
write_data-requires c =
    writing.data_fits _ c.data_size-size.result c.head_size.result c.put_head-at.result _ _ c.args.out.now c.put_head-at.new.out c.data_size-size.ensures c.head_size.ensures.value c.if-out-need.false c.put_head-at.ensures

pub returns : goal.returns
returns c =
    writing.encoded _ c.args.apdu.now c.head_size.result c.data_size-size.result c.put_head-at.result c.write_data.result _ _ c.in-Some.control c.args.out.now c.put_head-at.new.out c.write_data.new.out c.message-message.ensures.value c.data_size-size.ensures
    c.head_size.ensures.value c.if-out-need.false (writing.control_is c.in-Some.control (writing.two_control _ c.in-Some.control c.in-Some.ensures)) c.in-Some.ensures c.put_head-at.ensures c.write_data.ensures
