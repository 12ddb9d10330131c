use Rattle.zvt_runs.specs.BothEnds.{BeginsHere, MakesHere, line_of}
use Rattle.zvt_runs.proofs.Seen.{plan_seen}
use Rattle.zvt_runs.proofs.both_ends.run_both_ends.Goals as goal

pub returns-clause-run : goal.returns-clause-run
returns-clause-run g c =
    plan_seen g.K.Keeper.connects g.K.Keeper.failed g.K.Keeper.till g.N.NoteSource.noted (line_of g.A.LineEnd.state g.B.LineEnd.state)
    (MakesHere g.K.Keeper.orders g.K.Machine.hears g.K.Machine.is_resting g.K.Keeper.failed g.K.Keeper.till g.K.Machine.loses g.K.Machine.malforms) BeginsHere c.args.line.now
    c.args.steps.now.options c.args.steps.now.plan.now c.args.till.now c.run_connected.new.till _ _ _ _ c.run_connected.result c.requires c.run_connected.ensures.run
