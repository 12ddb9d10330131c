use Rattle.std.proofs.lemmas.Result.{err_from_is_err_and}
use Rattle.zvt_audit.proofs.AuditLemmas.{audited, walk_failed}
use Rattle.zvt_audit.proofs.summary.audit_trace.Goals as goal

pub returns-in_err-tally-clause-writes : goal.returns-in_err-tally-clause-writes
returns-in_err-tally-clause-writes g c =
    let p = err_from_is_err_and c.from_residual-in_err-tally.result c.from_residual-in_err-tally.ensures.1 in
    rw (p.1, p.2) (walk_failed _ c.args.scope c.args.form c.args.trace.now c.in_err-tally.field-0.0 _ _ _ c.in_err-tally.ensures)

pub returns-clause-writes : goal.returns-clause-writes
returns-clause-writes g c =
    audited _ c.args.scope c.args.trace.now c.args.form c.in_ok-tally.tally c.write_books.result _ _ _ _ c.in_ok-audit.ensures c.in_ok-tally.ensures c.write_books.ensures.writes
