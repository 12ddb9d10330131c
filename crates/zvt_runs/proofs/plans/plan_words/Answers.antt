use Rattle.zvt_runs.proofs.NamedSteps.{planned_more, stops_at}
use Rattle.zvt_runs.proofs.plans.plan_words.Goals as goal

pub returns-in_default : goal.returns-in_default
returns-in_default c = stops_at c.args.ends c.args.words.now c.words.at _ c.words.plan.items c.step_of.result c.words-test.true c.words.invariant c.step_of.ensures c.in_default.is

pub words-preserved : goal.words-preserved
words-preserved c =
    planned_more c.args.ends c.args.words.now c.words.at _ c.in-Some.step c.step_of.result c.words.plan.items c.add.new.plan.items c.words-test.true c.words.invariant c.step_of.ensures c.in-Some.is c.in_ok-add.ensures
