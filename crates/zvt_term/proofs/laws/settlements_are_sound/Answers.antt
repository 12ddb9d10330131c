use Rattle.zvt_term.proofs.WorldSound.{sound}
use Rattle.zvt_term.proofs.laws.settlements_are_sound.Goals as goal

pub returns : goal.returns
returns c = sound
