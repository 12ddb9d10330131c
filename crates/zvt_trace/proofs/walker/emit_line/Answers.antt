use Rattle.std.proofs.Common.{Ok, Result, subst}
use Rattle.std.proofs.lemmas.Result.{err_from_is_err_and}
use Rattle.zvt_trace.specs.Meanings.{Reads, meant_by}
use Rattle.zvt_trace.specs.declared.fault.TraceLineError.{TraceLineError}
use Rattle.zvt_trace.specs.declared.line.TraceLine.{TraceLine}
use Rattle.zvt_trace.proofs.LentLemmas.{failed_lent, heard_line}
use Rattle.zvt_trace.proofs.WalkedLemmas.{line_failed}
use Rattle.zvt_trace.proofs.walker.emit_line.Goals as goal

pub returns-in_err-emit-clause-emits : goal.returns-in_err-emit-clause-emits
returns-in_err-emit-clause-emits g c = λ content reads sides follow.
    let p = err_from_is_err_and c.from_residual.result c.from_residual.ensures.1 in
    let said : Reads content (Ok c.in-Ok.line) = subst (λ (read : Result TraceLine TraceLineError). Reads content read) c.in-Ok.is reads in
    rw (p.1, p.2) (line_failed g.L.Listener.hears g.L.Listener.fails c.in_err-emit.field-0.0 c.args.options.now.scope c.args.number content _ sides c.emit.new.self _ _ said.0 (failed_lent (λ b. b.now) (λ b. b.ghost_name) g.L.Listener.hears g.L.Listener.fails _ _ _ c.emit.new.listener _ c.listener-1.given.1 (c.in_err-emit.ensures.emits sides follow)))

pub emit-requires-clause-goes_on : goal.emit-requires-clause-goes_on
emit-requires-clause-goes_on g c =
    let said : Reads c.requires.read.0 (Ok c.in-Ok.line) = subst (λ (read : Result TraceLine TraceLineError). Reads c.requires.read.0 read) c.in-Ok.is c.requires.read.1 in
    said.2

pub returns-clause-emits : goal.returns-clause-emits
returns-clause-emits g c = λ content reads sides follow.
    let said : Reads content (Ok c.in-Ok.line) = subst (λ (read : Result TraceLine TraceLineError). Reads content read) c.in-Ok.is reads in
    (meant_by c.in-Ok.line, said.0, said.1, heard_line (λ b. b.now) (λ b. b.ghost_name) g.L.Listener.hears g.L.Listener.fails _ _ _ _ sides _ _ c.emit.new.listener _ c.listener-1.given.1 (c.in_ok-emit.ensures.emits sides follow))
