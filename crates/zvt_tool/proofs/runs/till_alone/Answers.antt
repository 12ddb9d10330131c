use Rattle.std.proofs.Common.{ap, ◌∙◌}
use Rattle.zvt_stream.specs.LineReading.{reading_as}
use Rattle.zvt_settle.specs.Settling.{new_settling}
use Rattle.zvt_till.specs.Events.{run_settings}
use Rattle.zvt_till.specs.Till.{TillState}
use Rattle.zvt_runs.specs.TillEnd.{BeginsThere, MakesThereAlone}
use Rattle.zvt_runs.proofs.Alone.{no_book_there}
use Rattle.zvt_runs.proofs.Traced.{alone}
use Rattle.zvt_tool.proofs.runs.till_alone.Goals as goal

pub returns-clause-run : goal.returns-clause-run
returns-clause-run g c =
    alone MakesThereAlone (BeginsThere (reading_as c.args.run.now.line)) run_settings c.args.run.now.options c.args.run.now.plan.now c.new-till.result c.run_till.new.till _ _ _ _ c.run_till.result no_book_there
    (c.new-till.ensures.both ∙ ap (λ (s : TillState). record { till = s; settling = new_settling }) c.with_defaults.ensures.state) c.run_till.ensures.run
