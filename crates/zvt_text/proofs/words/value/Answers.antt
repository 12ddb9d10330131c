use Rattle.std.proofs.Common.{arith}
use Rattle.zvt_text.proofs.WordLemmas.{next}
use Rattle.zvt_text.proofs.words.value.Goals as goal

pub overflow_mul-value : goal.overflow_mul-value
overflow_mul-value c =
    let n = next c.args.digits.now c.loop-byte.byte-index c.loop-byte.value c.requires.digits c.requires.few c.loop-byte-test.true c.loop-byte.invariant in
    omega (arith, n.small)

pub overflow_add-value : goal.overflow_add-value
overflow_add-value c =
    let n = next c.args.digits.now c.loop-byte.byte-index c.loop-byte.value c.requires.digits c.requires.few c.loop-byte-test.true c.loop-byte.invariant in
    omega (arith, n.small, c.from.ensures)

pub loop-byte-preserved : goal.loop-byte-preserved
loop-byte-preserved c =
    let n = next c.args.digits.now c.loop-byte.byte-index c.loop-byte.value c.requires.digits c.requires.few c.loop-byte-test.true c.loop-byte.invariant in
    rw c.from.ensures n.value
