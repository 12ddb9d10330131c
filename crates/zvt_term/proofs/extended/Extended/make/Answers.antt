use Rattle.std.proofs.Common.{subst}
use Rattle.zvt_term.specs.Inside.{IsSound}
use Rattle.zvt_term.proofs.extended.Extended.make.Goals as goal

pub returns-clause-writable : goal.returns-clause-writable
returns-clause-writable c = c.requires.writable (subst IsSound c.in_ok-make.ensures.made c.in_ok-make.ensures.sound)
