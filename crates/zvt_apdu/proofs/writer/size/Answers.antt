use Rattle.std.proofs.Common.{arith}
use Rattle.zvt_apdu.proofs.Writing as writing
use Rattle.zvt_apdu.proofs.writer.size.Goals as goal

pub overflow_add-result : goal.overflow_add-result
overflow_add-result c = omega (arith, c.head_size.ensures.most, writing.data_small _ c.args.apdu.now c.data_size-size.result c.message.ensures.value c.data_size-size.ensures c.message.ensures.spelled)

pub returns-clause-value : goal.returns-clause-value
returns-clause-value c bytes p = writing.size_is _ c.args.apdu.now c.head_size.result c.data_size-size.result bytes c.message.ensures.value c.data_size-size.ensures c.head_size.ensures.value p
