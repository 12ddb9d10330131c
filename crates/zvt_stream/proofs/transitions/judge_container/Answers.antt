use Rattle.std.proofs.Common.{arith, true, ◌-◌}
use Rattle.zvt_grammar.specs.Lengths.{reading_of}
use Rattle.zvt_stream.proofs.TlvMoves.{opened_fits}
use Rattle.zvt_stream.proofs.TreeMoves.{container_within, container_opens}
use Rattle.zvt_stream.proofs.transitions.judge_container.Goals as goal

pub overflow_sub-trailing : goal.overflow_sub-trailing
overflow_sub-trailing c =
    let told = rw c.in-Done.is at c.in_ok-at.ensures in
    let f = opened_fits (reading_of c.args.lengths) 0 _ true c.in-Done.size (c.args.goes.now.left - 1) c.args.byte (told 0).1 (told 0).0 in
    omega (arith, f.sized)

pub returns-in-More-clause-judges : goal.returns-in-More-clause-judges
returns-in-More-clause-judges c depth =
    let told = rw c.in-More.is at c.in_ok-at.ensures in
    container_within (reading_of c.args.lengths) c.args.levels.now.length c.in-More.at c.args.goes.now.left depth c.args.byte (omega (arith, c.ranges.byte)) c.requires (told 0).0 (told 0).1

pub returns-in-Done-clause-judges : goal.returns-in-Done-clause-judges
returns-in-Done-clause-judges c depth =
    let told = rw c.in-Done.is at c.in_ok-at.ensures in
    container_opens (reading_of c.args.lengths) c.args.levels.now.length c.in-Done.size c.args.goes.now.left depth c.args.byte (omega (arith, c.ranges.byte)) c.requires (told 0).0 (told 0).1
