use Rattle.std.proofs.Common.{arith}
use Rattle.std.proofs.lemmas.Grind.{elements}
use Rattle.zvt_apdu.proofs.reader.wrong_digit.Goals as goal

pub returns-then-bytes-at-gt9 : goal.returns-then-bytes-at-gt9
returns-then-bytes-at-gt9 c = grind (arith, elements)

pub loop-at-preserved : goal.loop-at-preserved
loop-at-preserved c = grind (arith, elements)

pub returns : goal.returns
returns c = grind (arith, elements)
