use Rattle.std.proofs.Common.{ap, ◌≤◌, length, arith}
use Rattle.zvt_trace.specs.Written.{limit}
use Rattle.zvt_grammar.specs.Lengths.{reading_of}
use Rattle.std.proofs.lemmas.Result.{err_from_is_err_and}
use Rattle.zvt_audit.proofs.AuditLemmas.{read_audited, read_failed}
use Rattle.zvt_tool.proofs.traces.audit_read.Goals as goal

pub returns-in_err-audited-clause-writes : goal.returns-in_err-audited-clause-writes
returns-in_err-audited-clause-writes g c =
    let p = err_from_is_err_and c.from_residual-in_err-audited.result c.from_residual-in_err-audited.ensures.1 in
    let few : length c.in_ok-trace.trace.items ≤ limit = omega (arith, c.in_ok-trace.ensures.bound, c.as_slice.ensures.len, ap length c.as_slice.ensures.value) in
    rw (p.1, p.2) (read_failed (reading_of c.args.lengths) _ c.in_ok-trace.trace.items _ _ _ c.in_err-audited.field-0.0 c.in_ok-trace.ensures.trace few c.as_slice.ensures.value c.in_err-audited.ensures.writes)

pub returns-clause-writes : goal.returns-clause-writes
returns-clause-writes g c =
    let few : length c.in_ok-trace.trace.items ≤ limit = omega (arith, c.in_ok-trace.ensures.bound, c.as_slice.ensures.len, ap length c.as_slice.ensures.value) in
    read_audited (reading_of c.args.lengths) _ c.in_ok-trace.trace.items _ _ _ c.in_ok-audited.audited c.in_ok-trace.ensures.trace few c.as_slice.ensures.value c.in_ok-audited.ensures.writes
