use Rattle.std.proofs.Common.{◌≡◌, ◌++◌, length}
use Rattle.zvt_tool.specs.Labels.{labelled}
use Rattle.zvt_tool.proofs.label.Label.add.Given as goal

abbrev pub invariant-bytes : goal.invariant-bytes
invariant-bytes l = l.text ++ labelled l.self l.last l.rest ≡ l.initial.text ++ labelled l.self l.before l.fn.bytes

abbrev pub decreases-bytes : goal.decreases-bytes
decreases-bytes l = length l.rest
