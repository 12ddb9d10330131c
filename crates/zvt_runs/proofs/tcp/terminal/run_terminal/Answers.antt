use Rattle.std.proofs.Common.{subst}
use Rattle.std.proofs.lemmas.Result.{err_from_is_err_and}
use Rattle.zvt_stream.specs.LineReading.{reading_as}
use Rattle.zvt_term.specs.Extended.{new_extended}
use Rattle.zvt_term.specs.declared.extended.Extended.{Extended}
use Rattle.zvt_runs.specs.Tills.{AnswersTills}
use Rattle.zvt_runs.proofs.ManyTills.{none_served}
use Rattle.zvt_runs.proofs.tcp.terminal.run_terminal.Goals as goal

pub returns-in-Err : goal.returns-in-Err
returns-in-Err g c =
    let new : Extended = new_extended c.args.run.now.tid c.args.run.now.verdict c.args.run.now.extras in
    (new, none_served (reading_as c.args.run.now.line) c.args.run.now.connections new)

pub returns-in_err-report_address : goal.returns-in_err-report_address
returns-in_err-report_address g c =
    let p = err_from_is_err_and c.from_residual.result c.from_residual.ensures.1 in
    let new : Extended = new_extended c.args.run.now.tid c.args.run.now.verdict c.args.run.now.extras in
    rw (p.1, p.2) (new, none_served (reading_as c.args.run.now.line) c.args.run.now.connections new)

pub returns : goal.returns
returns g c =
    subst (λ (t : Extended). (new : Extended) × AnswersTills (reading_as c.args.run.now.line) c.args.run.now.connections t new c.serve_tills.result) c.new-served.ensures
    (c.serve_tills.new.served, c.serve_tills.ensures.served)
