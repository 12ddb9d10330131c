use Rattle.std.proofs.lemmas.Result.{err_from_is_err_and}
use Rattle.zvt_trace.proofs.SidesLemmas.{none_ends, terminal_ends, till_end_fails, until}
use Rattle.zvt_trace.proofs.walker.BothSides.emit_end.Goals as goal

pub returns-then-self : goal.returns-then-self
returns-then-self g c = λ r sides follow. none_ends g.L.Listener.hears _ sides c.args.self.now _ follow c.if-self.true

pub returns-in_err-emit_truncation : goal.returns-in_err-emit_truncation
returns-in_err-emit_truncation g c = λ r sides follow.
    let p = err_from_is_err_and c.from_residual.result c.from_residual.ensures.1 in
    rw (p.1, p.2) (till_end_fails g.L.Listener.hears g.L.Listener.fails _ _ sides c.args.self.now.terminal _ _ (c.in_err-emit_truncation.ensures r sides.till (until r _ _ _ c.if-self.false follow.till).0) (until r _ _ _ c.if-self.false follow.terminal))

pub returns : goal.returns
returns g c = λ r sides follow.
    terminal_ends r g.L.Listener.hears g.L.Listener.fails _ sides _ _ _ c.emit_truncation-2.result (c.in_ok-emit_truncation.ensures r sides.till (until r _ _ _ c.if-self.false follow.till).0)
    (c.emit_truncation-2.ensures r sides.terminal (until r _ _ _ c.if-self.false follow.terminal).0)
