use Rattle.std.proofs.Common.{Err, Ok, refl}
use Rattle.std.proofs.lemmas.Result.{err_from_is_err_and}
use Rattle.zvt_runs.specs.BothEnds.{line_of}
use Rattle.zvt_runs.specs.declared.asking.Ended.TheVariants.{Order as EndedOrder}
use Rattle.zvt_runs.proofs.Here.{made_here, unasked_here}
use Rattle.zvt_runs.proofs.both_ends.BothEndsStepLine.make.Goals as goal

pub returns : goal.returns
returns g c =
    let seen = line_of g.A.LineEnd.state g.B.LineEnd.state in
    made_here g.K.Keeper.orders g.K.Machine.hears g.K.Machine.is_resting g.K.Keeper.failed g.K.Keeper.till g.K.Machine.loses g.K.Machine.malforms c.args.step.now c.in-Some.order c.order.result c.verdict.result (seen c.args.self.now) c.args.till.now (seen c.run_order.new.self) c.run_order.new.till (Ok c.in_ok-outcome.outcome) (Ok (EndedOrder c.in_ok-outcome.outcome))
    c.order.ensures c.in-Some.is c.verdict.ensures refl c.in_ok-outcome.ensures

pub returns-in_err-outcome : goal.returns-in_err-outcome
returns-in_err-outcome g c =
    let seen = line_of g.A.LineEnd.state g.B.LineEnd.state in
    let fault = c.in_err-outcome.field-0.0 in
    let p = err_from_is_err_and c.from_residual.result c.from_residual.ensures.1 in
    rw (p.1, p.2) (made_here g.K.Keeper.orders g.K.Machine.hears g.K.Machine.is_resting g.K.Keeper.failed g.K.Keeper.till g.K.Machine.loses g.K.Machine.malforms c.args.step.now c.in-Some.order c.order.result c.verdict.result (seen c.args.self.now) c.args.till.now (seen c.run_order.new.self) c.run_order.new.till (Err fault) (Err fault)
    c.order.ensures c.in-Some.is c.verdict.ensures refl c.in_err-outcome.ensures)

pub returns-in_default : goal.returns-in_default
returns-in_default g c = unasked_here g.K.Keeper.orders g.K.Machine.hears g.K.Machine.is_resting g.K.Keeper.failed g.K.Keeper.till g.K.Machine.loses g.K.Machine.malforms c.args.step.now c.order.result (line_of g.A.LineEnd.state g.B.LineEnd.state c.args.self.now) c.args.till.now c.order.ensures c.in_default.is
