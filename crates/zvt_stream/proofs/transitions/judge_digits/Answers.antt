use Rattle.std.proofs.Common.{◌-◌, arith, true}
use Rattle.std.proofs.lemmas.Result.{err_from_is_err_and}
use Rattle.zvt_stream.proofs.FieldMoves.{content_within, content_ends}
use Rattle.zvt_stream.proofs.transitions.judge_digits.Goals as goal

pub returns-in_err-judge_content_byte : goal.returns-in_err-judge_content_byte
returns-in_err-judge_content_byte c levels r depth outer b deep is =
    let p = err_from_is_err_and c.from_residual.result c.from_residual.ensures.1 in
    rw (p.1, p.2) (c.in_err-judge_content_byte.ensures (c.args.goes.now.left - 1))

pub returns-then-goes-eq0 : goal.returns-then-goes-eq0
returns-then-goes-eq0 c levels r depth =
    content_ends r true c.args.goes.now.more c.args.goes.now.left depth c.args.byte (omega (arith, c.ranges.byte)) c.in_ok-judge_content_byte.ensures (omega (arith, c.requires.0, c.if-goes-eq0.true))

pub returns : goal.returns
returns c levels r depth =
    content_within r true c.args.goes.now.more c.args.goes.now.left depth c.args.byte (omega (arith, c.ranges.byte)) c.in_ok-judge_content_byte.ensures (λ e. c.if-goes-eq0.false (omega (arith, e)))
