use Rattle.std.proofs.Common.{ap}
use Rattle.std.proofs.lemmas.Result.{IfOk-weaker}
use Rattle.clap.specs.Words.{found_of, rows_of}
use Rattle.zvt_show.specs.declared.render.Style.{Style}
use Rattle.zvt_tool.specs.TraceCommands.{style_by}
use Rattle.zvt_tool.specs.declared.trace_command.TraceWork.TheVariants.{Render}
use Rattle.zvt_tool.proofs.ByFlags.{by_form}
use Rattle.zvt_tool.proofs.trace_command.rendering.Goals as goal

pub returns : goal.returns
returns c =
    let rows = rows_of (found_of c.args.inner.now) in
    IfOk-weaker c.on_traces.result _ _ (λ command is. by_form rows (λ json. Render (style_by c.args.text c.args.json json)) c.flag.result c.flag-2.result _ _ command c.flag.ensures c.flag-2.ensures (ap (λ (s : Style). Render s) c.style_by.ensures) c.lengths_by.ensures is) c.on_traces.ensures
