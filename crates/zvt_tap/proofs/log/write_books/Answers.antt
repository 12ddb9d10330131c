use Rattle.std.proofs.Common.{Err, Ok, Result, inr, subst}
use Rattle.zvt_audit.proofs.AuditLemmas.{keeps_same}
use Rattle.zvt_audit.specs.declared.line.LineAudit.{LineAudit}
use Rattle.zvt_trace.specs.declared.fault.TraceFault.{TraceFault}
use Rattle.zvt_tap.specs.Heard.{HasAudited}
use Rattle.zvt_tap.proofs.LogLemmas.{line_heard}
use Rattle.zvt_tap.proofs.log.write_books.Goals as goal

pub returns-in-Ok : goal.returns-in-Ok
returns-in-Ok g c = λ r reads_on trace has.
    let heard = subst (λ (a : Result LineAudit TraceFault). HasAudited r reads_on trace a) c.in-Ok.is has in
    line_heard r reads_on trace _ _ c.finish.result (c.finish.ensures r reads_on trace heard.2.0 heard.0 heard.1 heard.2.1 heard.2.2)

pub returns-in-Err : goal.returns-in-Err
returns-in-Err g c = λ r reads_on trace has. inr (keeps_same (g.O.Sink.written c.args.output.now))
