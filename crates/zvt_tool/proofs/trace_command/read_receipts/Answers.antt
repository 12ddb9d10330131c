use Rattle.std.proofs.Common.{Option, ◌∙◌, ap, subst}
use Rattle.std.proofs.lemmas.Result.{IfOk-weaker}
use Rattle.clap.specs.Words.{found_of, rows_of}
use Rattle.zvt_show.specs.declared.render.Style.TheVariants.{JsonReceipts, Receipts}
use Rattle.zvt_text.specs.declared.codepages.Codepage.{Codepage}
use Rattle.zvt_tool.specs.TraceCommands.{IsRendering, codepage_by, receipt_options}
use Rattle.zvt_tool.proofs.trace_command.read_receipts.Goals as goal

pub returns : goal.returns
returns c =
    let rows = rows_of (found_of c.args.inner.now) in
    IfOk-weaker c.rendering.result _ _ (λ command is. (
      c.flag-text_blocks.result,
      c.flag-text_blocks.ensures,
      subst (λ (codepage : Option Codepage). IsRendering rows (Receipts (receipt_options c.flag-text_blocks.result codepage)) (JsonReceipts c.flag-text_blocks.result) command) (c.codepage_by-codepage.ensures ∙ ap codepage_by c.text.ensures) is,
    )) c.rendering.ensures
