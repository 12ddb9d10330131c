use Rattle.std.proofs.Common.{◌≡◌, ◌+◌, ◌≤◌, true, drop}
use Rattle.zvt_journal.specs.Files.{records_from}
use Rattle.zvt_journal.proofs.content.records_in.Given as goal

abbrev pub invariant-loop-at : goal.invariant-loop-at
invariant-loop-at l = record { within : l.count ≤ l.at; so_far : l.count + records_from l.begins (drop l.at l.text) ≡ records_from true l.text }
