use Rattle.std.proofs.Common.{arith}
use Rattle.zvt_stream.proofs.ContentMoves.{object_within, object_ends}
use Rattle.zvt_stream.proofs.transitions.judge_object_content.Goals as goal

pub returns-then-goes-eq0 : goal.returns-then-goes-eq0
returns-then-goes-eq0 c levels r depth x lt = object_ends r c.args.goes.now.more c.args.goes.now.left depth x lt (omega (arith, c.requires.0, c.if-goes-eq0.true))

pub returns : goal.returns
returns c levels r depth x lt = object_within r c.args.goes.now.more c.args.goes.now.left depth x lt (λ e. c.if-goes-eq0.false (omega (arith, e)))
