use Rattle.std.proofs.lemmas.Result.{err_from_is_err_and}
use Rattle.zvt_trace.proofs.SidesLemmas.{end_fails, loses, loss_fails}
use Rattle.zvt_trace.proofs.walker.BothSides.lose.Goals as goal

pub returns-in_err-emit_end-clause-emits : goal.returns-in_err-emit_end-clause-emits
returns-in_err-emit_end-clause-emits g c = λ sides follow.
    let p = err_from_is_err_and c.from_residual.result c.from_residual.ensures.1 in
    rw (p.1, p.2) (end_fails g.L.Listener.hears g.L.Listener.fails _ _ _ sides _ _ (c.in_err-emit_end.ensures _ sides follow))

pub returns-in_err-hear-clause-emits : goal.returns-in_err-hear-clause-emits
returns-in_err-hear-clause-emits g c = λ sides follow.
    let p = err_from_is_err_and c.from_residual-in_err-hear.result c.from_residual-in_err-hear.ensures.1 in
    rw (p.1, p.2) (loss_fails g.L.Listener.hears g.L.Listener.fails _ _ _ sides _ _ _ (c.in_ok-emit_end.ensures _ sides follow) c.in_err-hear.ensures)

pub returns-clause-emits : goal.returns-clause-emits
returns-clause-emits g c = λ sides follow.
    loses g.L.Listener.hears _ _ sides c.new.result _ _ _ (c.in_ok-emit_end.ensures _ sides follow) c.in_ok-hear.ensures c.new.ensures.follows
