use Rattle.std.proofs.Common.{arith}
use Rattle.zvt_grammar.specs.Lengths.{reading_of}
use Rattle.zvt_stream.proofs.TreeMoves.{tag_within, tag_ends}
use Rattle.zvt_stream.proofs.transitions.judge_object_tag.Goals as goal

pub returns-in-More-clause-judges : goal.returns-in-More-clause-judges
returns-in-More-clause-judges c =
    let told = rw c.in-More.is at c.in_ok-at.ensures in
    tag_within (reading_of c.args.lengths) c.args.levels.now.tag c.in-More.at c.args.goes.now.left c.args.depth c.args.byte (omega (arith, c.ranges.byte)) c.requires told.0 told.1

pub returns-in-Done-clause-judges : goal.returns-in-Done-clause-judges
returns-in-Done-clause-judges c =
    let told = rw c.in-Done.is at c.in_ok-at.ensures in
    tag_ends (reading_of c.args.lengths) c.args.levels.now.tag c.in-Done.constructed c.args.goes.now.left c.args.depth c.args.byte (omega (arith, c.ranges.byte)) c.requires told.0 told.1
