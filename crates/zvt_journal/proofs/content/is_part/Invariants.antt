use Rattle.std.proofs.Common.{◌≡◌, drop}
use Rattle.zvt_journal.specs.Files.{is_part}
use Rattle.zvt_journal.proofs.content.is_part.Given as goal

abbrev pub invariant-loop-at : goal.invariant-loop-at
invariant-loop-at l = record { so_far : is_part (drop l.at l.part) (drop l.at l.wanted) ≡ is_part l.part l.wanted }
