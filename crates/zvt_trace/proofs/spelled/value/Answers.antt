use Rattle.std.proofs.Common.{refl, arith}
use Rattle.zvt_trace.specs.declared.spelled.TheConstants.{VALUES}
use Rattle.zvt_trace.proofs.SpelledLemmas.{digit_in}
use Rattle.zvt_trace.proofs.spelled.value.Goals as goal

pub returns : goal.returns
returns c = digit_in VALUES c.args.digit (omega arith) refl
