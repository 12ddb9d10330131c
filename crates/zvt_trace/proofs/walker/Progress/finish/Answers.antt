use Rattle.std.proofs.Common.{arith}
use Rattle.std.proofs.lemmas.Result.{err_from_is_err_and}
use Rattle.zvt_trace.proofs.TallyLemmas.{CountsBeside, FailsBeside, fault_beside, heard_beside}
use Rattle.zvt_trace.proofs.WalkedLemmas.{closed, end_failed}
use Rattle.zvt_trace.proofs.walker.Progress.finish.Goals as goal

pub returns-in_err-emit_end : goal.returns-in_err-emit_end
returns-in_err-emit_end g c = λ before earlier has.
    let p = err_from_is_err_and c.from_residual.result c.from_residual.ensures.1 in
    rw (p.1, p.2) (fault_beside (λ b. b.now) (λ b. b.ghost_name) g.L.Listener.hears g.L.Listener.fails _ _ before earlier _ _ c.emit_end.new.listener _ c.in_err-emit_end.listener-1-own.given.1
    (end_failed (CountsBeside (λ b. b.now) (λ b. b.ghost_name) g.L.Listener.hears g.L.Listener.fails) (FailsBeside (λ b. b.now) (λ b. b.ghost_name) g.L.Listener.hears g.L.Listener.fails) _ _ before earlier c.args.self _ _ has
    (c.in_err-emit_end.ensures _ has.sides has.follow)))

pub returns : goal.returns
returns g c = λ before earlier has.
    closed (CountsBeside (λ b. b.now) (λ b. b.ghost_name) g.L.Listener.hears g.L.Listener.fails) _ before earlier c.args.self c.emit_end.new.listener.first _ c.emit_end.new.listener g.L.Listener.hears c.args.listener.now _ has
    (c.in_ok-emit_end.ensures _ has.sides has.follow)
    (λ all heard few. heard_beside (λ b. b.now) (λ b. b.ghost_name) g.L.Listener.hears g.L.Listener.fails earlier all _ c.emit_end.new.listener _ has.counts c.listener-2-1.given.1 heard
    (omega (arith, few, c.requires.sound.lines, c.requires.sound.size))) g.L.Listener.fails
