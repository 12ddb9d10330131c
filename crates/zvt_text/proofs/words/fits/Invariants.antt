use Rattle.std.proofs.Common.{◌≡◌, length}
use Rattle.zvt_text.specs.Words.{fits}
use Rattle.zvt_text.proofs.words.fits.Given as goal

abbrev pub invariant-places : goal.invariant-places
invariant-places l = fits l.form l.text ≡ fits l.places l.rest

abbrev pub decreases-places : goal.decreases-places
decreases-places l = length l.places
