use Rattle.std.proofs.lemmas.Result.{IfOk-weaker}
use Rattle.clap.specs.Words.{found_of, rows_of}
use Rattle.zvt_show.specs.declared.render.Style.TheVariants.{Json, Show}
use Rattle.zvt_tool.specs.TraceCommands.{IsRendering}
use Rattle.zvt_tool.proofs.trace_command.read_show.Goals as goal

pub returns : goal.returns
returns c =
    let rows = rows_of (found_of c.args.inner.now) in
    IfOk-weaker c.rendering.result _ _ (λ command is. (c.flag.result, c.flag.ensures, (c.flag-2.result, c.flag-2.ensures, is))) c.rendering.ensures
