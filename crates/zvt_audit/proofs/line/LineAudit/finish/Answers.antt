use Rattle.std.proofs.lemmas.Result.{err_from_is_err_and}
use Rattle.zvt_audit.proofs.LineLemmas.{line_failed, line_written}
use Rattle.zvt_audit.proofs.line.LineAudit.finish.Goals as goal

pub returns-in_err-found : goal.returns-in_err-found
returns-in_err-found g c = λ r reads_on trace events start new whole heard.
    let p = err_from_is_err_and c.from_residual.result c.from_residual.ensures.1 in
    rw (p.1, p.2) (line_failed r reads_on trace events start c.args.self new whole heard (record { messages = 0; bad = 0 }) (g.W.Sink.written c.args.writer.now) (g.W.Sink.written c.write_books.new.writer) c.in_err-found.field-0.0 c.in_err-found.ensures.writes)

pub returns : goal.returns
returns g c = λ r reads_on trace events start new whole heard.
    line_written r reads_on trace events start c.args.self new whole heard (record { messages = 0; bad = 0 }) (g.W.Sink.written c.args.writer.now) (g.W.Sink.written c.write_books.new.writer) c.in_ok-found.found c.in_ok-found.ensures.writes
