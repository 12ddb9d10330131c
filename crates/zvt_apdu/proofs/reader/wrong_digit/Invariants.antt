use Rattle.std.proofs.Common.{take, drop, ◌-◌}
use Rattle.zvt_bcd.specs.Digits.{AreDigits}
use Rattle.zvt_apdu.proofs.reader.wrong_digit.Given as goal

abbrev pub invariant-loop-at : goal.invariant-loop-at
invariant-loop-at l = AreDigits (take (l.at - l.free) (drop l.free l.bytes))
