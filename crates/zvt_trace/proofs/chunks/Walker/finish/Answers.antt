use Rattle.std.proofs.Common.{◌++◌, List, ℕ, Err, Ok, subst}
use Rattle.std.proofs.lemmas.Result.{err_from_is_err_and}
use Rattle.std.specs.Str.Lines.{lines}
use Rattle.zvt_trace.specs.Chunks.{walker_reading, walker_scope}
use Rattle.zvt_trace.specs.Listening.{WalksOn}
use Rattle.zvt_trace.proofs.FeedLemmas.{finish_failed, finished}
use Rattle.zvt_trace.proofs.chunks.Walker.finish.Goals as goal

pub returns-in_err-read_lines : goal.returns-in_err-read_lines
returns-in_err-read_lines g c = λ bytes earlier has.
    let p = err_from_is_err_and c.from_residual.result c.from_residual.ensures.1 in
    rw (p.1, p.2) (finish_failed _ g.L.Listener.hears g.L.Listener.fails _ bytes earlier c.args.self c.read_lines.new.self c.in_err-read_lines.field-0.0 _ _ has
    (subst (λ (t : List ℕ). WalksOn (walker_reading c.args.self) g.L.Listener.hears g.L.Listener.fails (walker_scope c.args.self) (lines has.to.done ++ lines t) earlier c.read_lines.new.self c.args.listener.now c.read_lines.new.listener (Err c.in_err-read_lines.field-0.0))
    c.as_slice.ensures.value (c.in_err-read_lines.ensures.walks (lines has.to.done) earlier has.to.walked)))

pub returns : goal.returns
returns g c = λ bytes earlier has.
    finished g.L.Listener.hears g.L.Listener.fails bytes earlier c.args.self c.read_lines.new.self c.finish.result _ _ _ c.in_ok-read_lines.ensures.options has
    (subst (λ (t : List ℕ). WalksOn (walker_reading c.args.self) g.L.Listener.hears g.L.Listener.fails (walker_scope c.args.self) (lines has.to.done ++ lines t) earlier c.read_lines.new.self c.args.listener.now c.read_lines.new.listener (Ok tt))
    c.as_slice.ensures.value (c.in_ok-read_lines.ensures.walks (lines has.to.done) earlier has.to.walked)) c.finish.ensures
