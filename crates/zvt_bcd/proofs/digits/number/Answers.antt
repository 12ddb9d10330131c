use Rattle.std.proofs.Common.{arith}
use Rattle.zvt_bcd.proofs.NumberLemmas.{number_of-take, power-more, power-shorter}
use Rattle.zvt_bcd.proofs.digits.number.Goals as goal

pub overflow_mul-total : goal.overflow_mul-total
overflow_mul-total c = omega (arith, power-shorter c.loop-byte.byte-index (omega arith))

pub overflow_add-total : goal.overflow_add-total
overflow_add-total c = omega (arith, power-shorter c.loop-byte.byte-index (omega arith))

pub loop-byte-preserved : goal.loop-byte-preserved
loop-byte-preserved c = record {
  value = omega (arith, number_of-take c.args.bytes.now c.loop-byte.byte-index c.loop-byte-test.true);
  bound = omega (arith, power-more c.loop-byte.byte-index);
}
