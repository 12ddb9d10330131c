use Rattle.std.proofs.Common.{arith, ◌-◌}
use Rattle.zvt_grammar.specs.Lengths.{reading_of}
use Rattle.zvt_stream.proofs.TlvMoves.{opened_fits}
use Rattle.zvt_stream.proofs.TreeMoves.{length_within, tested_opens, tested_ends, tested_content}
use Rattle.zvt_stream.proofs.transitions.judge_object_length.Goals as goal

pub overflow_sub-trailing : goal.overflow_sub-trailing
overflow_sub-trailing c =
    let told = rw c.in-Done.is at c.in_ok-at.ensures in
    let f = opened_fits (reading_of c.args.lengths) 0 _ c.args.levels.now.nests c.in-Done.size (c.args.goes.now.left - 1) c.args.byte (told 0).1 (told 0).0 in
    omega (arith, f.sized)

pub returns-then-levels-clause-judges : goal.returns-then-levels-clause-judges
returns-then-levels-clause-judges c depth =
    let told = rw c.in-Done.is at c.in_ok-at.ensures in
    tested_opens (reading_of c.args.lengths) c.args.levels.now.nests c.args.levels.now.length c.in-Done.size c.args.goes.now.left depth c.args.byte c.if-levels.true (omega (arith, c.ranges.byte)) c.requires told

pub returns-then-size-eq0-clause-judges : goal.returns-then-size-eq0-clause-judges
returns-then-size-eq0-clause-judges c depth =
    let told = rw c.in-Done.is at c.in_ok-at.ensures in
    tested_ends (reading_of c.args.lengths) c.args.levels.now.nests c.args.levels.now.length c.in-Done.size c.args.goes.now.left depth c.args.byte c.if-levels.false (omega (arith, c.ranges.byte)) c.requires c.if-size-eq0.true told

pub returns-in-More-clause-judges : goal.returns-in-More-clause-judges
returns-in-More-clause-judges c depth =
    let told = rw c.in-More.is at c.in_ok-at.ensures in
    length_within (reading_of c.args.lengths) c.args.levels.now.nests c.args.levels.now.length c.in-More.at c.args.goes.now.left depth c.args.byte (omega (arith, c.ranges.byte)) c.requires told

pub returns-else-size-eq0-clause-judges : goal.returns-else-size-eq0-clause-judges
returns-else-size-eq0-clause-judges c depth =
    let told = rw c.in-Done.is at c.in_ok-at.ensures in
    tested_content (reading_of c.args.lengths) c.args.levels.now.nests c.args.levels.now.length c.in-Done.size c.args.goes.now.left depth c.args.byte c.if-levels.false (omega (arith, c.ranges.byte)) c.requires c.if-size-eq0.false told
