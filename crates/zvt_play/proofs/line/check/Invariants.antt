use Rattle.std.proofs.Common.{length}
use Rattle.zvt_stream.specs.LineReading.{reading_as}
use Rattle.zvt_play.proofs.CheckLemmas.{Checked}
use Rattle.zvt_play.proofs.line.check.Given as goal

abbrev pub invariant-messages : goal.invariant-messages
invariant-messages l = Checked (reading_as l.fn.form) l.bytes l.rest l.stream

abbrev pub decreases-messages : goal.decreases-messages
decreases-messages l = length l.rest
