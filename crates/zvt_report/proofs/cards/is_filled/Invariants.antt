use Rattle.std.proofs.Common.{◌≡◌, length}
use Rattle.zvt_report.specs.Cards.{is_filled}
use Rattle.zvt_report.proofs.cards.is_filled.Given as goal

abbrev pub invariant-bytes : goal.invariant-bytes
invariant-bytes l = is_filled l.number ≡ is_filled l.rest

abbrev pub decreases-bytes : goal.decreases-bytes
decreases-bytes l = length l.rest
