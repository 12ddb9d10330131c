use Rattle.std.proofs.Common.{◌≡◌, ◌+◌, ◌≤◌, drop}
use Rattle.zvt_journal.specs.Files.{lines_ended}
use Rattle.zvt_journal.proofs.content.lines_ended.Given as goal

abbrev pub invariant-loop-at : goal.invariant-loop-at
invariant-loop-at l = record { within : l.count ≤ l.at; so_far : l.count + lines_ended (drop l.at l.text) ≡ lines_ended l.text }
