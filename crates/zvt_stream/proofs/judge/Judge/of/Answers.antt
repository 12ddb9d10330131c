use Rattle.std.proofs.Common.{[]}
use Rattle.zvt_grammar.specs.Lengths.{reading_of}
use Rattle.zvt_stream.proofs.JudgeLemmas.{start_stands}
use Rattle.zvt_stream.proofs.judge.Judge.of.Goals as goal

pub invariant_of-result : goal.invariant_of-result
invariant_of-result c = ([], start_stands (reading_of c.args.lengths) c.beginning.result _ c.beginning.ensures (c.no_levels.ensures.outer))

pub returns-clause-stands : goal.returns-clause-stands
returns-clause-stands c = start_stands (reading_of c.args.lengths) c.beginning.result _ c.beginning.ensures (c.no_levels.ensures.outer)
