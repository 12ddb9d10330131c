use Rattle.std.proofs.Common.{ap, ◌∙◌}
use Rattle.zvt_settle.specs.Settling.{new_settling}
use Rattle.zvt_till.specs.Events.{run_settings}
use Rattle.zvt_till.specs.Till.{TillState}
use Rattle.zvt_runs.specs.BothEnds.{BeginsHere, MakesHereAlone}
use Rattle.zvt_runs.proofs.Alone.{no_book_here}
use Rattle.zvt_runs.proofs.Traced.{alone}
use Rattle.zvt_tool.proofs.runs.loop_alone.Goals as goal

pub returns-clause-run : goal.returns-clause-run
returns-clause-run g c =
    alone MakesHereAlone BeginsHere run_settings c.args.run.now.options c.args.run.now.plan.now c.new-till.result c.run_loop.new.till _ _ _ _ c.run_loop.result no_book_here
    (c.new-till.ensures.both ∙ ap (λ (s : TillState). record { till = s; settling = new_settling }) c.with_defaults.ensures.state) c.run_loop.ensures.run
