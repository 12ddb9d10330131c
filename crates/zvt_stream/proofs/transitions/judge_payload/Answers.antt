use Rattle.zvt_stream.proofs.FrameMoves.{payload_within, payload_ends}
use Rattle.zvt_stream.proofs.transitions.judge_payload.Goals as goal

pub returns-then-goes-eq1 : goal.returns-then-goes-eq1
returns-then-goes-eq1 c levels r depth x lt = payload_ends r c.args.goes.now.left depth x c.if-goes-eq1.true

pub returns : goal.returns
returns c levels r depth x lt = payload_within r c.args.goes.now.left depth x c.if-goes-eq1.false
