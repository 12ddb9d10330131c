use Rattle.std.proofs.Common.{Err, Ok, refl}
use Rattle.std.proofs.lemmas.Result.{err_from_is_err_and}
use Rattle.zvt_stream.specs.EndState.{end_state}
use Rattle.zvt_runs.specs.declared.asking.Ended.TheVariants.{Order as EndedOrder}
use Rattle.zvt_runs.proofs.There.{asked_step, made_there}
use Rattle.zvt_runs.proofs.till_end.EndpointStepLine.make.Goals as goal

pub returns : goal.returns
returns g c =
    let old = c.args.self.now in
    let reader = c.run_order.new.reader in
    let writer = c.run_order.new.writer in
    let before = end_state old.stream (g.R.Source.remaining old.reader) (g.W.Sink.written old.writer) (g.R.Source.reads old.reader) (g.R.Source.failures old.reader) (g.W.Sink.failures old.writer) in
    let after = end_state c.run_order.new.stream (g.R.Source.remaining reader) (g.W.Sink.written writer) (g.R.Source.reads reader) (g.R.Source.failures reader) (g.W.Sink.failures writer) in
    let e = c.in_ok-outcome.ensures in
    made_there g.K.Keeper.orders g.K.Machine.hears g.K.Machine.is_resting g.K.Keeper.failed g.K.Keeper.till g.K.Machine.loses g.K.Machine.malforms g.K.Asker.asks g.K.Asker.settling c.args.step.now c.in-Some.order c.order.result before c.args.till.now after c.run_order.new.till (Ok c.in_ok-outcome.outcome) (Ok (EndedOrder c.in_ok-outcome.outcome))
    c.order.ensures c.in-Some.is refl e.ok tt tt e.reads e.reader_failures e.writer_failures

pub returns-in_err-outcome : goal.returns-in_err-outcome
returns-in_err-outcome g c =
    let old = c.args.self.now in
    let reader = c.run_order.new.reader in
    let writer = c.run_order.new.writer in
    let before = end_state old.stream (g.R.Source.remaining old.reader) (g.W.Sink.written old.writer) (g.R.Source.reads old.reader) (g.R.Source.failures old.reader) (g.W.Sink.failures old.writer) in
    let after = end_state c.run_order.new.stream (g.R.Source.remaining reader) (g.W.Sink.written writer) (g.R.Source.reads reader) (g.R.Source.failures reader) (g.W.Sink.failures writer) in
    let fault = c.in_err-outcome.field-0.0 in
    let e = c.in_err-outcome.ensures in
    let p = err_from_is_err_and c.from_residual.result c.from_residual.ensures.1 in
    rw (p.1, p.2) (made_there g.K.Keeper.orders g.K.Machine.hears g.K.Machine.is_resting g.K.Keeper.failed g.K.Keeper.till g.K.Machine.loses g.K.Machine.malforms g.K.Asker.asks g.K.Asker.settling c.args.step.now c.in-Some.order c.order.result before c.args.till.now after c.run_order.new.till (Err fault) (Err fault)
    c.order.ensures c.in-Some.is refl tt e.err e.over e.reads e.reader_failures e.writer_failures)

pub returns-in_default : goal.returns-in_default
returns-in_default g c =
    let old = c.args.self.now in
    let end = c.make_ask.new.end in
    let before = end_state old.stream (g.R.Source.remaining old.reader) (g.W.Sink.written old.writer) (g.R.Source.reads old.reader) (g.R.Source.failures old.reader) (g.W.Sink.failures old.writer) in
    let after = end_state end.stream (g.R.Source.remaining end.reader) (g.W.Sink.written end.writer) (g.R.Source.reads end.reader) (g.R.Source.failures end.reader) (g.W.Sink.failures end.writer) in
    asked_step g.K.Keeper.orders g.K.Machine.hears g.K.Machine.is_resting g.K.Keeper.failed g.K.Keeper.till g.K.Machine.loses g.K.Machine.malforms g.K.Asker.asks g.K.Asker.settling c.args.step.now c.order.result before c.args.till.now after c.make_ask.new.till c.make_ask.result c.order.ensures c.in_default.is c.make_ask.ensures
