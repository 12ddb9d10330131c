use Rattle.std.proofs.Common.{◌≡◌, ◌++◌, length}
use Rattle.zvt_report.specs.Dialogue.{look_lines}
use Rattle.zvt_report.proofs.dialogue.look_lines.Given as goal

abbrev pub invariant-looks : goal.invariant-looks
invariant-looks l = look_lines l.fn.rows l.fn.looks ≡ l.ranges.items ++ look_lines l.fn.rows l.rest

abbrev pub decreases-looks : goal.decreases-looks
decreases-looks l = length l.rest
