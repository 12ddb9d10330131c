use Rattle.std.proofs.Common.{◌≡◌, ◌++◌, take}
use Rattle.zvt_report.specs.SlipObjects.{slashed}
use Rattle.zvt_report.proofs.slip_objects.slashed.Given as goal

abbrev pub invariant-loop-byte : goal.invariant-loop-byte
invariant-loop-byte l = l.text ≡ l.initial.text ++ slashed (take l.byte-index l.bytes)
