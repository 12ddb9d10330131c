use Rattle.zvt_runs.specs.BothEnds.{here}
use Rattle.zvt_runs.proofs.Turns.{Going}
use Rattle.zvt_runs.proofs.both_ends.BothEnds.run_order.Given as goal

abbrev pub invariant-alternations : goal.invariant-alternations
invariant-alternations g l =
    Going g.met.K.Keeper.follows l.fn.order l.fn.verdict l.made (here g.A.LineEnd.state g.B.LineEnd.state l.fn.self l.fn.till) (here g.A.LineEnd.state g.B.LineEnd.state l.self l.till)
