use Rattle.zvt_term.specs.Simulation.{ends_of}
use Rattle.zvt_term.proofs.WorldMeans.{worlds-more, fit-more, matched}
use Rattle.zvt_term.proofs.Accounting.{accounted}
use Rattle.zvt_term.proofs.Returned.{keeps_reversals}
use Rattle.zvt_term.proofs.world.run_world.Goals as goal

pub loop-step-preserved : goal.loop-step-preserved
loop-step-preserved c =
    let at = c.loop-step in
    record {
      moved = worlds-more c.args.moves.now at.step-index c.step-item.result (ends_of at.both) (ends_of c.make.new.self) c.loop-step-test.true c.step-item.is at.invariant.moved c.in_ok-make.ensures.moved;
      fit = fit-more c.args.moves.now at.step-index c.step-item.result c.loop-step-test.true c.step-item.is at.invariant.fit c.in_ok-make.ensures.fit;
    }

pub returns-clause-matches : goal.returns-clause-matches
returns-clause-matches c = matched c.args.moves.now c.loop-step.step-index (ends_of c.loop-step.both) c.loop-step-test.false c.loop-step.invariant.moved c.loop-step.invariant.fit

pub returns-clause-accounted : goal.returns-clause-accounted
returns-clause-accounted c =
    accounted c.args.moves.now c.loop-step.step-index (ends_of c.loop-step.both) c.loop-step-test.false c.loop-step.invariant.moved c.loop-step.invariant.fit

pub returns-clause-reversals : goal.returns-clause-reversals
returns-clause-reversals c =
    keeps_reversals c.args.moves.now c.loop-step.step-index (ends_of c.loop-step.both) c.loop-step-test.false c.loop-step.invariant.moved c.loop-step.invariant.fit
