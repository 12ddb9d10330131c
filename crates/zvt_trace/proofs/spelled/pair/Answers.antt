use Rattle.std.proofs.Common.{refl, arith}
use Rattle.zvt_trace.specs.declared.spelled.TheConstants.{VALUES}
use Rattle.zvt_trace.proofs.SpelledLemmas.{few_worth, worth_in}
use Rattle.zvt_trace.proofs.spelled.pair.Goals as goal

pub returns : goal.returns
returns c =
    let high = worth_in VALUES c.args.high (omega arith) refl in
    let low = worth_in VALUES c.args.low (omega arith) refl in
    omega (arith, high, low)

pub overflow_mul-result : goal.overflow_mul-result
overflow_mul-result c = omega (arith, worth_in VALUES c.args.high (omega arith) refl, few_worth c.args.high)

pub overflow_add-result : goal.overflow_add-result
overflow_add-result c =
    let high = worth_in VALUES c.args.high (omega arith) refl in
    let low = worth_in VALUES c.args.low (omega arith) refl in
    omega (arith, high, low, few_worth c.args.high, few_worth c.args.low)
