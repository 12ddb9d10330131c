use Rattle.std.proofs.Common.{◌∙◌, sym}
use Rattle.zvt_trace.proofs.EmitLemmas.{cut_ends, ends_cut, length_none, length_some, none_cut}
use Rattle.zvt_trace.proofs.emit.emit_truncation.Goals as goal

pub returns-then-is_empty : goal.returns-then-is_empty
returns-then-is_empty g c = λ r side follows.
    none_cut r g.L.Listener.hears _ _ side c.args.stream.now _ follows (sym c.unfinished-bytes.ensures ∙ length_none c.unfinished-bytes.result.now (sym c.is_empty.ensures ∙ c.if-is_empty.true))

pub returns : goal.returns
returns g c = λ r side follows.
    cut_ends r g.L.Listener.hears g.L.Listener.fails _ _ side _ _ _ c.hear.result (ends_cut r _ _ side c.args.stream.now c.unfinished-bytes.result.now follows (length_some c.unfinished-bytes.result.now (sym c.is_empty.ensures ∙ c.if-is_empty.false)) c.unfinished-bytes.ensures) c.hear.ensures
