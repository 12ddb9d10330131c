use Rattle.std.proofs.lemmas.Result.{err_from_is_err_and}
use Rattle.zvt_grammar.specs.Lengths.{reading_of}
use Rattle.zvt_trace.proofs.EmitLemmas.{rest_failed, rest_left, rest_resumed}
use Rattle.zvt_trace.proofs.emit.emit_resumed.Goals as goal

pub returns-then-left-gt0-clause-rest : goal.returns-then-left-gt0-clause-rest
returns-then-left-gt0-clause-rest g c = λ size left skips.
    rest_left (reading_of c.args.options.now.lengths) g.L.Listener.hears g.L.Listener.fails _ _ c.args.reader.now c.in-Rest.size c.in-Rest.left size left _ c.in-Rest.is c.if-left-gt0.true skips

pub returns-in_err-hear-in-Rest-clause-rest : goal.returns-in_err-hear-in-Rest-clause-rest
returns-in_err-hear-in-Rest-clause-rest g c = λ size left skips.
    let p = err_from_is_err_and c.from_residual.result c.from_residual.ensures.1 in
    rw (p.1, p.2) (rest_failed (reading_of c.args.options.now.lengths) g.L.Listener.hears g.L.Listener.fails _ _ _ c.args.reader.now c.args.reader.now c.in-Rest.size c.in-Rest.left size left _ _ c.in-Rest.is c.if-left-gt0.false c.in_err-hear-in-Rest.ensures skips)

pub returns-in_ok-hear-in-Rest-clause-rest : goal.returns-in_ok-hear-in-Rest-clause-rest
returns-in_ok-hear-in-Rest-clause-rest g c = λ size left skips.
    rest_resumed g.L.Listener.hears g.L.Listener.fails _ _ c.args.reader.now c.new.result c.in-Rest.size c.in-Rest.left size left _ _ c.in-Rest.is c.if-left-gt0.false c.new.ensures.follows c.in_ok-hear-in-Rest.ensures skips
