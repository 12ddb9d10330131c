use Rattle.std.proofs.lemmas.Result.{err_from_is_err_and}
use Rattle.zvt_trace.proofs.walker.emit_other.Goals as goal

pub emit_line-requires-clause-read : goal.emit_line-requires-clause-read
emit_line-requires-clause-read g c = (c.next_line.result.0.now, c.read_line.ensures)

pub returns-in_err-emit_line-clause-emits : goal.returns-in_err-emit_line-clause-emits
returns-in_err-emit_line-clause-emits g c = λ sides follow.
    let p = err_from_is_err_and c.from_residual.result c.from_residual.ensures.1 in
    let line = c.next_line.ensures in
    rw (p.1, p.2) (c.next_line.result.1.now, (c.next_line.result.0.now, line.lines, c.in_err-emit_line.ensures.emits c.next_line.result.0.now c.read_line.ensures sides follow, line.shorter, line.some))

pub returns-clause-emits : goal.returns-clause-emits
returns-clause-emits g c = λ sides follow.
    let line = c.next_line.ensures in
    (c.next_line.result.0.now, line.lines, c.in_ok-emit_line.ensures.emits c.next_line.result.0.now c.read_line.ensures sides follow, line.shorter, line.some)
