use Rattle.std.proofs.Common.{arith, false, refl}
use Rattle.zvt_stream.proofs.FieldMoves.{content_within, content_ends}
use Rattle.zvt_stream.proofs.transitions.judge_free.Goals as goal

pub returns-then-goes-eq0 : goal.returns-then-goes-eq0
returns-then-goes-eq0 c levels r depth byte lt =
    content_ends r false c.args.goes.now.more c.args.goes.now.left depth byte lt (λ l. refl) (omega (arith, c.requires.0, c.if-goes-eq0.true))

pub returns : goal.returns
returns c levels r depth byte lt =
    content_within r false c.args.goes.now.more c.args.goes.now.left depth byte lt (λ l. refl) (λ e. c.if-goes-eq0.false (omega (arith, e)))
