use Rattle.std.proofs.Common.{◌∙◌, arith, length-take}
use Rattle.zvt_trace.proofs.InputLemmas.{at_least, broken, one_more}
use Rattle.zvt_trace.proofs.input.read_trace.Goals as goal

pub returns-in_err-taken-clause-taken : goal.returns-in_err-taken-clause-taken
returns-in_err-taken-clause-taken g c =
    broken _ 16777217 c.in_err-taken.field-0.0 _ _ _ c.loop-turn.trace.items c.read_piece.new.trace.items c.loop-turn.invariant.taken c.in_err-taken.ensures.piece (omega (arith, length-take c.min-capacity.result c.loop-turn.buffer))

pub returns-then-taken-eq0-clause-taken : goal.returns-then-taken-eq0-clause-taken
returns-then-taken-eq0-clause-taken g c =
    let grown = one_more _ _ _ _ _ c.loop-turn.trace.items _ c.loop-turn.invariant.taken c.in_ok-taken.ensures.piece in
    (c.read_piece.new.trace.items, omega (arith, grown.longer), grown.consumed)

pub returns-then-len-gt-LIMIT-clause-trace : goal.returns-then-len-gt-LIMIT-clause-trace
returns-then-len-gt-LIMIT-clause-trace g c =
    let grown = one_more _ _ _ _ _ c.loop-turn.trace.items _ c.loop-turn.invariant.taken c.in_ok-taken.ensures.piece in
    at_least _ _ _ _ grown.consumed (omega arith)

pub returns-then-len-gt-LIMIT-clause-taken : goal.returns-then-len-gt-LIMIT-clause-taken
returns-then-len-gt-LIMIT-clause-taken g c =
    let piece = c.in_ok-taken.ensures.piece in
    let grown = one_more _ _ _ _ _ c.loop-turn.trace.items _ c.loop-turn.invariant.taken piece in
    (c.read_piece.new.trace.items, omega (arith, grown.longer, piece.4, length-take c.min-capacity.result c.loop-turn.buffer), grown.consumed)

pub loop-turn-preserved : goal.loop-turn-preserved
loop-turn-preserved g c =
    let grown = one_more _ _ _ _ _ c.loop-turn.trace.items _ c.loop-turn.invariant.taken c.in_ok-taken.ensures.piece in
    record {
      turns = omega (arith, grown.longer);
      small = omega arith;
      taken = grown.consumed;
      count = c.in_ok-taken.ensures.counted ∙ c.loop-turn.invariant.count;
    }
