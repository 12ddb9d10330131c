use Rattle.std.proofs.Common.{◌≡◌, ◌++◌, length}
use Rattle.zvt_tool.specs.Verdicts.{escaped}
use Rattle.zvt_tool.proofs.verdicts.add_escaped.Given as goal

abbrev pub invariant-bytes : goal.invariant-bytes
invariant-bytes l = l.text ++ escaped l.rest ≡ l.initial.text ++ escaped l.fn.bytes

abbrev pub decreases-bytes : goal.decreases-bytes
decreases-bytes l = length l.rest
