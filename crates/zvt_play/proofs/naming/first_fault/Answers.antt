use Rattle.zvt_play.proofs.NamingLemmas.{first_here, named_more}
use Rattle.zvt_play.proofs.naming.first_fault.Goals as goal

pub returns-in-Some : goal.returns-in-Some
returns-in-Some c = first_here c.args.steps.now c.loop-at.at c.index-steps-at.result c.in-Some.why c.loop-at-test.true c.index-steps-at.is c.in-Some.ensures c.loop-at.invariant

pub loop-at-preserved : goal.loop-at-preserved
loop-at-preserved c = named_more c.args.steps.now c.loop-at.at c.index-steps-at.result c.loop-at-test.true c.index-steps-at.is c.in_default.ensures c.loop-at.invariant
