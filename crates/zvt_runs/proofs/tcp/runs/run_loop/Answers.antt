use Rattle.zvt_runs.specs.BothEnds.{BeginsHere, MakesHere}
use Rattle.zvt_runs.specs.Runs.{noting}
use Rattle.zvt_runs.proofs.OverTcpLemmas.{traced}
use Rattle.zvt_runs.proofs.tcp.runs.run_loop.Goals as goal

pub returns-clause-run : goal.returns-clause-run
returns-clause-run g c =
    traced g.K.Keeper.connects g.K.Keeper.failed g.K.Keeper.till (noting g.N.NoteSource.noted (MakesHere g.K.Keeper.orders g.K.Machine.hears g.K.Machine.is_resting g.K.Keeper.failed g.K.Keeper.till g.K.Machine.loses g.K.Machine.malforms)) BeginsHere c.args.run.now.options c.args.run.now.plan.now c.args.till.now c.run_both_ends-answer.new.till _ _ _ _
    c.is_broken.result c.run_both_ends-answer.result c.by_trace.result c.by_trace.ensures c.run_both_ends-answer.ensures.run
