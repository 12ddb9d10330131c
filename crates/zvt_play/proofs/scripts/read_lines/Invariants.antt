use Rattle.std.proofs.Common.{length}
use Rattle.zvt_stream.specs.LineReading.{reading_as}
use Rattle.zvt_play.proofs.ScriptLemmas.{HasRead}
use Rattle.zvt_play.proofs.scripts.read_lines.Given as goal

abbrev pub invariant-lines : goal.invariant-lines
invariant-lines l = HasRead (reading_as l.role.form) l.role.own l.trace l.rest l.number l.steps.items

abbrev pub decreases-lines : goal.decreases-lines
decreases-lines l = length l.rest
