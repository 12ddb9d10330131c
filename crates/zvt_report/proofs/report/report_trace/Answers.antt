use Rattle.std.proofs.lemmas.Result.{err_from_is_err_and}
use Rattle.zvt_report.proofs.ReporterLemmas.{reported_all, walk_failed}
use Rattle.zvt_report.proofs.report.report_trace.Goals as goal

pub returns-in_err-tally : goal.returns-in_err-tally
returns-in_err-tally c =
    let p = err_from_is_err_and c.from_residual-in_err-tally.result c.from_residual-in_err-tally.ensures.1 in
    rw (p.1, p.2) (walk_failed c.args.zone _ c.args.scope c.args.trace.now c.in_err-tally.field-0.0 _ _ c.in_err-tally.ensures)

pub returns : goal.returns
returns c =
    reported_all c.args.zone c.in_ok-moments.moments _ c.args.scope c.args.trace.now c.in_ok-tally.tally c.in_ok-report.report _ _ c.in_ok-findings.findings.items
    c.in_ok-moments.ensures.times c.in_ok-moments.ensures.bad c.in_ok-connected.ensures c.new.ensures.scope c.new.ensures.found c.new.ensures.approvals
    c.in_ok-tally.ensures (rw c.as_slice.ensures.value at c.in_ok-findings.ensures) c.in_ok-report.ensures
