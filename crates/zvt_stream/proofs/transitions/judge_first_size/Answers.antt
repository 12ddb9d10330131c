use Rattle.std.proofs.Common.{arith}
use Rattle.zvt_stream.specs.Moves.{leads_to}
use Rattle.zvt_stream.proofs.FrameMoves.{size_short}
use Rattle.zvt_stream.proofs.transitions.judge_first_size.Goals as goal

pub returns-clause-judges : goal.returns-clause-judges
returns-clause-judges c r depth =
    size_short r c.args.levels.now.high c.args.levels.now.low c.args.goes.now.left depth c.args.byte c.from.result (leads_to c.begin_data.result c.begin_data.new.goes c.begin_data.new.levels) c.from.ensures (omega (arith, c.ranges.byte)) c.if-byte-eq255.false (c.begin_data.ensures.begins r)
