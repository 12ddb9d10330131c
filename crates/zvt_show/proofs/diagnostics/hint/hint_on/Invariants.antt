use Rattle.std.proofs.Common.{◌≡◌, ◌-◌, length}
use Rattle.std.specs.Str.Lines.{lines}
use Rattle.zvt_show.specs.Hints.{hint_on}
use Rattle.zvt_show.proofs.diagnostics.hint.hint_on.Given as goal

abbrev pub invariant-lines : goal.invariant-lines
invariant-lines l = hint_on l.trace l.left (lines l.rest) ≡ hint_on l.trace (l.fn.number - 1) (lines l.trace)

abbrev pub decreases-lines : goal.decreases-lines
decreases-lines l = length l.rest
