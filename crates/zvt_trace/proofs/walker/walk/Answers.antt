use Rattle.std.proofs.lemmas.Result.{err_from_is_err_and}
use Rattle.zvt_trace.proofs.WalkedLemmas.{walk_ended, walk_failed}
use Rattle.zvt_trace.proofs.walker.walk.Goals as goal

pub returns-in_err-read_lines : goal.returns-in_err-read_lines
returns-in_err-read_lines g c =
    let p = err_from_is_err_and c.from_residual.result c.from_residual.ensures.1 in
    rw (p.1, p.2) (walk_failed g.L.Listener.hears g.L.Listener.fails c.args.lengths c.args.scope c.new-progress.result c.read_lines.new.self c.args.trace.now c.in_err-read_lines.field-0.0 _ _ c.new-progress.ensures.reading c.new-progress.ensures.scope
    c.new-progress.ensures.walked c.in_err-read_lines.ensures.walks)

pub returns : goal.returns
returns g c =
    walk_ended g.L.Listener.hears g.L.Listener.fails c.args.lengths c.args.scope c.new-progress.result c.read_lines.new.self c.args.trace.now c.finish.result _ _ _ c.new-progress.ensures.reading c.new-progress.ensures.scope
    c.in_ok-read_lines.ensures.options c.new-progress.ensures.walked c.in_ok-read_lines.ensures.walks c.finish.ensures
