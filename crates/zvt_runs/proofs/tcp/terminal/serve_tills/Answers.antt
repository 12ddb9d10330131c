use Rattle.std.proofs.Common.{rules}
use Rattle.std.proofs.lemmas.Result.{err_from_is_err_and}
use Rattle.zvt_stream.specs.LineReading.{reading_as}
use Rattle.zvt_runs.proofs.ManyTills.{goes_on, left_offline, stopped, unreported}
use Rattle.zvt_runs.proofs.tcp.terminal.serve_tills.Goals as goal

pub returns-in_err-broke-clause-served : goal.returns-in_err-broke-clause-served
returns-in_err-broke-clause-served g c =
    let p = err_from_is_err_and c.from_residual-in_err-broke.result c.from_residual-in_err-broke.ensures.1 in
    rw (p.1, p.2) (stopped (reading_as c.args.run.now.line) c.tills.gone c.args.run.now.connections c.tills.first c.in_err-broke.field-0.0 c.args.served.now c.tills.served c.serve_till.new.served c.tills-test.true c.tills.invariant.served c.in_err-broke.ensures)

pub returns-in_err-report_till-clause-served : goal.returns-in_err-report_till-clause-served
returns-in_err-report_till-clause-served g c =
    let p = err_from_is_err_and c.from_residual-in_err-report_till.result c.from_residual-in_err-report_till.ensures.1 in
    rw (p.1, p.2) (unreported (reading_as c.args.run.now.line) c.tills.gone c.args.run.now.connections c.tills.first c.in_ok-broke.broke c.args.served.now c.tills.served c.serve_till.new.served c.tills-test.true c.tills.invariant.served c.in_ok-broke.ensures)

pub tills-preserved : goal.tills-preserved
tills-preserved g c = record {
  served = goes_on (reading_as c.args.run.now.line) c.tills.gone c.tills.first c.if-is_none.first c.in_ok-broke.broke c.args.served.now c.tills.served c.serve_till.new.served (search rules) c.tills.invariant.served c.in_ok-broke.ensures;
  offline = left_offline (reading_as c.args.run.now.line) c.tills.served c.in_ok-broke.broke c.serve_till.new.served c.in_ok-broke.ensures;
  taken = search rules;
}
