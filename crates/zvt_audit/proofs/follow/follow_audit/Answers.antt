use Rattle.std.proofs.lemmas.Result.{err_from_is_err_and}
use Rattle.zvt_grammar.specs.Lengths.{reading_of}
use Rattle.zvt_audit.proofs.HearLemmas.{books_followed, books_unread, hearing_failed}
use Rattle.zvt_audit.proofs.follow.follow_audit.Goals as goal

pub returns-in_err-audit-clause-follows : goal.returns-in_err-audit-clause-follows
returns-in_err-audit-clause-follows g c =
    let p = err_from_is_err_and c.from_residual.result c.from_residual.ensures.1 in
    let heard = c.in_err-audit.ensures.hears in
    (heard.0, heard.1, rw (p.1, p.2) (hearing_failed (reading_of c.args.lengths) c.args.scope c.args.form heard.0 (g.R.Source.remaining c.hear_all.new.reader) (g.W.Sink.written c.args.writer.now) c.in_err-audit.field-0.0 heard.2))

pub returns-clause-follows : goal.returns-clause-follows
returns-clause-follows g c =
    let heard = c.in_ok-audit.ensures.hears in
    (heard.0, heard.1, books_followed (reading_of c.args.lengths) c.args.scope c.args.form heard.0 (g.R.Source.remaining c.hear_all.new.reader) (g.W.Sink.written c.args.writer.now) _ c.finish.result (c.finish.ensures.writes (reading_of c.args.lengths) c.args.scope heard.0 heard.2.0) heard.2.1)

pub returns-clause-read : goal.returns-clause-read
returns-clause-read g c = λ is.
    let heard = c.in_ok-audit.ensures.hears in
    absurd (books_unread (reading_of c.args.lengths) c.args.scope c.args.form heard.0 (g.W.Sink.written c.args.writer.now) _ c.finish.result (c.finish.ensures.writes (reading_of c.args.lengths) c.args.scope heard.0 heard.2.0) is)

pub returns-clause-write : goal.returns-clause-write
returns-clause-write g c = λ is.
    let heard = c.in_ok-audit.ensures.hears in
    c.finish.ensures.write is (reading_of c.args.lengths) c.args.scope heard.0 heard.2.0
