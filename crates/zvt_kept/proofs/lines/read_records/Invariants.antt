use Rattle.std.proofs.Common.{length}
use Rattle.zvt_kept.specs.Reading.{HasRead}
use Rattle.zvt_kept.proofs.lines.read_records.Given as goal

abbrev pub invariant-loop-rest : goal.invariant-loop-rest
invariant-loop-rest l = HasRead l.text l.rest l.last l.number l.entries.items

abbrev pub decreases-loop-rest : goal.decreases-loop-rest
decreases-loop-rest l = length l.rest
