use Rattle.std.proofs.Common.{ap, subst}
use Rattle.std.proofs.lemmas.Result.{IfOk-weaker}
use Rattle.clap.specs.Words.{found_of, rows_of}
use Rattle.zvt_grammar.specs.declared.lengths.Lengths.TheVariants.{Shortest}
use Rattle.zvt_text.specs.declared.form.Form.{Form}
use Rattle.zvt_tool.specs.TraceCommands.{IsTraceCommandOf}
use Rattle.zvt_tool.specs.declared.trace_command.TraceWork.TheVariants.{Vectors}
use Rattle.zvt_tool.proofs.trace_command.read_vectors.Goals as goal

pub returns : goal.returns
returns c =
    let rows = rows_of (found_of c.args.inner.now) in
    IfOk-weaker c.on_traces.result _ _ (λ command is. (c.flag.result, c.flag.ensures, subst (λ (f : Form). IsTraceCommandOf rows (Vectors f) Shortest command) c.form_by.ensures is)) c.on_traces.ensures
