use Rattle.std.proofs.Common.{◌≡◌, length}
use Rattle.zvt_web.specs.Body.{after_blanks}
use Rattle.zvt_web.proofs.body.after_blanks.Given as goal

abbrev pub invariant-blanks : goal.invariant-blanks
invariant-blanks l = after_blanks l.text ≡ after_blanks l.rest

abbrev pub decreases-blanks : goal.decreases-blanks
decreases-blanks l = length l.rest
