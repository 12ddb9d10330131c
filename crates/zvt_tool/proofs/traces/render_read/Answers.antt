use Rattle.std.proofs.Common.{ap, ◌≤◌, length, arith}
use Rattle.zvt_trace.specs.Written.{limit}
use Rattle.std.proofs.lemmas.Result.{err_from_is_err_and}
use Rattle.zvt_grammar.specs.Lengths.{reading_of}
use Rattle.zvt_show.proofs.PageLemmas.{read_answered, read_failed}
use Rattle.zvt_tool.proofs.traces.render_read.Goals as goal

pub returns-in_err-trace-clause-writes : goal.returns-in_err-trace-clause-writes
returns-in_err-trace-clause-writes g c =
    let p = err_from_is_err_and c.from_residual.result c.from_residual.ensures.1 in
    rw (p.1, p.2) (read_failed (reading_of c.args.lengths) c.args.style _ _ c.in_err-trace.field-0.0 c.in_err-trace.ensures.trace)

pub returns-clause-writes : goal.returns-clause-writes
returns-clause-writes g c =
    let few : length c.in_ok-trace.trace.items ≤ limit = omega (arith, c.in_ok-trace.ensures.bound, c.as_slice.ensures.len, ap length c.as_slice.ensures.value) in
    read_answered (reading_of c.args.lengths) c.args.style _ c.in_ok-trace.trace.items _ _ _ c.render_trace.result c.in_ok-trace.ensures.trace few c.as_slice.ensures.value c.render_trace.ensures.writes
