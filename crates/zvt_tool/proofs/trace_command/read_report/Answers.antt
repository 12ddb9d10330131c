use Rattle.std.proofs.Common.{◌∙◌, ap, subst}
use Rattle.std.proofs.lemmas.Result.{IfOk-weaker}
use Rattle.clap.specs.Words.{found_of, rows_of}
use Rattle.zvt_report.specs.declared.form.ReportForm.{ReportForm}
use Rattle.zvt_report.specs.declared.zones.Zone.{Zone}
use Rattle.zvt_tool.specs.TraceCommands.{IsByForm, report_form, zone_by}
use Rattle.zvt_tool.specs.declared.trace_command.TraceWork.TheVariants.{Report}
use Rattle.zvt_tool.proofs.ByFlags.{by_form}
use Rattle.zvt_tool.proofs.trace_command.read_report.Goals as goal

pub returns : goal.returns
returns c =
    let rows = rows_of (found_of c.args.inner.now) in
    IfOk-weaker c.on_traces.result _ _ (λ command is. (
      c.flag-3.result,
      c.flag-3.ensures,
      (
        c.flag-2.result,
        c.flag-2.ensures,
        subst (λ (zone : Zone). IsByForm rows (λ json. Report (report_form json c.flag-2.result) zone c.flag-3.result) command) (c.zone_by-zone.ensures ∙ ap zone_by c.text.ensures)
            (by_form rows (λ json. Report (report_form json c.flag-2.result) c.zone_by-zone.result c.flag-3.result) c.flag.result c.flag-4.result _ _ command c.flag.ensures c.flag-4.ensures
            (ap (λ (f : ReportForm). Report f c.zone_by-zone.result c.flag-3.result) c.report_form.ensures) c.lengths_by.ensures is),
      ),
    )) c.on_traces.ensures
