use Rattle.zvt_stream.specs.EndState.{end_state}
use Rattle.zvt_runs.specs.TillEnd.{BeginsThere, MakesThere}
use Rattle.zvt_runs.proofs.Seen.{plan_seen}
use Rattle.zvt_runs.proofs.till_end.run_till_end.Goals as goal

pub returns-clause-run : goal.returns-clause-run
returns-clause-run g c =
    plan_seen g.K.Keeper.connects g.K.Keeper.failed g.K.Keeper.till g.N.NoteSource.noted
    (λ end. end_state end.stream (g.R.Source.remaining end.reader) (g.W.Sink.written end.writer) (g.R.Source.reads end.reader) (g.R.Source.failures end.reader) (g.W.Sink.failures end.writer))
    (MakesThere g.K.Keeper.orders g.K.Machine.hears g.K.Machine.is_resting g.K.Keeper.failed g.K.Keeper.till g.K.Machine.loses g.K.Machine.malforms g.K.Asker.asks g.K.Asker.settling) (BeginsThere c.args.end.now.stream.reading) c.args.end.now
    c.args.steps.now.options c.args.steps.now.plan.now c.args.till.now c.run_connected.new.till _ _ _ _ c.run_connected.result c.requires c.run_connected.ensures.run
