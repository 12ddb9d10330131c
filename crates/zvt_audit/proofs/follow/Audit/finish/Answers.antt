use Rattle.std.proofs.Common.{Err, Ok}
use Rattle.std.proofs.lemmas.Result.{err_from_is_err_and}
use Rattle.std.specs.Str.Lines.{lines}
use Rattle.zvt_audit.proofs.AuditLemmas.{audited, none_written, walk_failed}
use Rattle.zvt_audit.proofs.HearLemmas.{all_walked}
use Rattle.zvt_audit.proofs.follow.Audit.finish.Goals as goal

pub returns-in_err-tally-clause-writes : goal.returns-in_err-tally-clause-writes
returns-in_err-tally-clause-writes g c = λ r scope bytes has.
    let p = err_from_is_err_and c.from_residual.result c.from_residual.ensures.1 in
    rw (p.1, p.2) (walk_failed r scope c.args.form bytes c.in_err-tally.field-0.0 (g.W.Sink.written c.args.writer.now) has.start c.finish.new.listener (all_walked r scope bytes c.args.self c.finish.new.listener (Err c.in_err-tally.field-0.0) has c.in_err-tally.ensures))

pub returns-clause-writes : goal.returns-clause-writes
returns-clause-writes g c = λ r scope bytes has.
    audited r scope bytes c.args.form c.in_ok-tally.tally c.write_books.result _ _ has.start c.finish.new.listener has.starts (all_walked r scope bytes c.args.self c.finish.new.listener (Ok c.in_ok-tally.tally) has c.in_ok-tally.ensures) c.write_books.ensures.writes

pub returns-in_err-tally-clause-write : goal.returns-in_err-tally-clause-write
returns-in_err-tally-clause-write g c = λ is r scope bytes has.
    let p = err_from_is_err_and c.from_residual.result c.from_residual.ensures.1 in
    absurd (none_written r scope (lines bytes) has.start c.finish.new.listener c.in_err-tally.field-0.0 (all_walked r scope bytes c.args.self c.finish.new.listener (Err c.in_err-tally.field-0.0) has c.in_err-tally.ensures) cc)
