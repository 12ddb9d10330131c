use Rattle.std.proofs.Common.{arith, ◌+◌, ◌*◌}
use Rattle.zvt_grammar.specs.Lengths.{reading_of}
use Rattle.zvt_stream.specs.Moves.{leads_to}
use Rattle.zvt_stream.proofs.FrameMoves.{size_high}
use Rattle.zvt_stream.proofs.transitions.judge_high_size.Goals as goal

pub returns-clause-judges : goal.returns-clause-judges
returns-clause-judges c left depth =
    size_high (reading_of c.args.lengths) c.args.levels.now.high c.args.levels.now.low c.args.levels.now.number left depth c.args.byte (256 * c.from.result + c.args.levels.now.number) (leads_to c.begin_data.result c.begin_data.new.goes c.begin_data.new.levels) (omega (arith, c.from.ensures)) (omega (arith, c.ranges.byte)) (omega (arith, c.least.ensures, c.if-size-least.false)) (c.begin_data.ensures.begins (reading_of c.args.lengths))
