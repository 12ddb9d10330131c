use Rattle.std.proofs.Common.{refl}
use Rattle.zvt_till.proofs.Runs.{tied-silent}
use Rattle.zvt_till.proofs.events.Run.connected.Goals as goal

pub returns-clause-tied : goal.returns-clause-tied
returns-clause-tied c = rw (c.in_ok-add.ensures, c.connected.ensures.state) (tied-silent _ _ _ _ c.requires tt refl)
