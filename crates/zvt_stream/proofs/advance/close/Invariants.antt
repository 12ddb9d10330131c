use Rattle.std.proofs.Common.{◌≡◌, length, reverse}
use Rattle.zvt_stream.specs.Judge.{unfilled}
use Rattle.zvt_stream.proofs.advance.close.Given as goal

abbrev pub invariant-loop-open : goal.invariant-loop-open
invariant-loop-open l = unfilled l.open (reverse l.outer.items) ≡ unfilled l.fn.left (reverse l.fn.outer.items)

abbrev pub decreases-loop-open : goal.decreases-loop-open
decreases-loop-open l = length l.outer.items
