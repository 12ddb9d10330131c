use Rattle.std.proofs.Common.{◌≡◌, take}
use Rattle.zvt_term.specs.World.{world, FitMoves}
use Rattle.zvt_term.specs.Simulation.{ends_of}
use Rattle.zvt_term.proofs.world.run_world.Given as goal

abbrev pub invariant-loop-step : goal.invariant-loop-step
invariant-loop-step l =
    record {
      moved : ends_of l.both ≡ world (take l.step-index l.moves);
      fit : FitMoves (take l.step-index l.moves);
    }
