use Rattle.std.proofs.Common.{arith}
use Rattle.zvt_stream.proofs.FieldMoves.{digit_within, last_content, last_ends}
use Rattle.zvt_stream.proofs.transitions.judge_count.Goals as goal

pub returns-then-goes-gt0-clause-judges : goal.returns-then-goes-gt0-clause-judges
returns-then-goes-gt0-clause-judges c r depth =
    let told = c.in_ok-number.ensures in
    digit_within r c.args.goes.now.more c.args.levels.now.number c.in_ok-number.number c.args.goes.now.left depth c.args.byte told.0 told.1 c.if-goes-gt0.true

pub returns-then-number-eq0-clause-judges : goal.returns-then-number-eq0-clause-judges
returns-then-number-eq0-clause-judges c r depth =
    let told = c.in_ok-number.ensures in
    last_ends r c.args.goes.now.more c.args.levels.now.number c.in_ok-number.number c.args.goes.now.left depth c.args.byte (omega (arith, c.if-goes-gt0.false)) told.0 told.1 c.if-number-eq0.true

pub returns-clause-judges : goal.returns-clause-judges
returns-clause-judges c r depth =
    let told = c.in_ok-number.ensures in
    last_content r c.args.goes.now.more c.args.levels.now.number c.in_ok-number.number c.args.goes.now.left depth c.args.byte (omega (arith, c.if-goes-gt0.false)) told.0 told.1 c.if-number-eq0.false
