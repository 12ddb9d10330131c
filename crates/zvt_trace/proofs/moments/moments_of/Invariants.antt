use Rattle.std.proofs.Common.{◌≡◌, ◌++◌, ◌+◌, ◌≤◌, length}
use Rattle.std.specs.Str.Lines.{lines}
use Rattle.zvt_trace.specs.Moments.{bad_from, bad_marks_of, times_from, times_of}
use Rattle.zvt_trace.proofs.moments.moments_of.Given as goal

abbrev pub invariant-lines : goal.invariant-lines
invariant-lines l =
    (times_of (lines l.fn.trace) ≡ l.times.items ++ times_from l.number l.mark (lines l.rest))
    × (bad_marks_of (lines l.fn.trace) ≡ l.bad.items ++ bad_from l.number (lines l.rest))
    × (l.number + length l.rest ≤ length l.fn.trace)

abbrev pub decreases-lines : goal.decreases-lines
decreases-lines l = length l.rest
