use Rattle.std.proofs.Common.{arith}
use Rattle.std.proofs.lemmas.Result.{err_from_is_err_and}
use Rattle.zvt_play.proofs.PlayLemmas.{sends_without_reads}
use Rattle.zvt_play.proofs.player.take_step.Goals as goal

pub returns-in_err-send_step-in-Send-clause-err : goal.returns-in_err-send_step-in-Send-clause-err
returns-in_err-send_step-in-Send-clause-err g c =
    let p = err_from_is_err_and c.from_residual.result c.from_residual.ensures.1 in
    let stops = c.in_err-send_step-in-Send.ensures.err c.args.end.now.stream.reading (g.R.Source.remaining c.args.end.now.reader) c.args.end.now.stream.lent c.args.end.now.stream in
    rw (p.1, p.2, c.in-Send.is) (rw c.as_slice.ensures.value at stops)

pub returns-in_err-send_step-in-Send-clause-reads : goal.returns-in_err-send_step-in-Send-clause-reads
returns-in_err-send_step-in-Send-clause-reads g c =
    let p = err_from_is_err_and c.from_residual.result c.from_residual.ensures.1 in
    let stops = c.in_err-send_step-in-Send.ensures.err c.args.end.now.stream.reading (g.R.Source.remaining c.args.end.now.reader) c.args.end.now.stream.lent c.args.end.now.stream in
    let none = sends_without_reads c.args.end.now.stream.reading c.in_err-send_step-in-Send.field-0.0 c.as_slice.result.now _ _ c.args.end.now.stream stops in
    rw (p.1, p.2) (omega (arith, none))
