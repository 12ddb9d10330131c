use Rattle.std.proofs.Common.{◌≡◌, true, take}
use Rattle.zvt_trace.specs.Spelled.{AreHex}
use Rattle.zvt_trace.proofs.spelled.are_digits.Given as goal

abbrev pub invariant-loop-byte : goal.invariant-loop-byte
invariant-loop-byte l = l.all ≡ true → AreHex (take l.byte-index l.text)
