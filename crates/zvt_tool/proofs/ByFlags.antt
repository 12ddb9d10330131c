-- Commands on traces whose output and lengths flags decide.
use Rattle.std.proofs.Common.{◌≡◌, codes, subst, Bool, List}
use Rattle.clap.specs.Walk.{Row}
use Rattle.zvt_grammar.specs.declared.lengths.Lengths.{Lengths}
use Rattle.zvt_tool.specs.Given.{IsFlagOf}
use Rattle.zvt_tool.specs.Options.{lengths_by}
use Rattle.zvt_tool.specs.TraceCommands.{IsByForm, IsTraceCommandOf}
use Rattle.zvt_tool.specs.declared.trace_command.TraceCommand.{TraceCommand}
use Rattle.zvt_tool.specs.declared.trace_command.TraceWork.{TraceWork}

pub by_form : (rows : List Row) (work : Bool → TraceWork) (json loose : Bool) (made : TraceWork) (lengths : Lengths) (command : TraceCommand)
    → IsFlagOf (codes "json") rows json → IsFlagOf (codes "loose") rows loose → made ≡ work json → lengths ≡ lengths_by loose
    → IsTraceCommandOf rows made lengths command → IsByForm rows work command
by_form rows work json loose made lengths command is_json is_loose e f is = (
  json,
  is_json,
  (
    loose,
    is_loose,
    subst (λ (l : Lengths). IsTraceCommandOf rows (work json) l command) f
        (subst (λ (w : TraceWork). IsTraceCommandOf rows w lengths command) e is),
  ),
)
