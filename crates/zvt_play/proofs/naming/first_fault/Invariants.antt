use Rattle.zvt_play.specs.Naming.{AreNamedTo}
use Rattle.zvt_play.specs.Playing.{acts_of}
use Rattle.zvt_play.proofs.naming.first_fault.Given as goal

abbrev pub invariant-loop-at : goal.invariant-loop-at
invariant-loop-at l = AreNamedTo (acts_of l.steps) l.at
