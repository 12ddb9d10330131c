use Rattle.std.proofs.Common.{◌∷◌, [], ◌∙◌, arith, sym}
use Rattle.zvt_grammar.specs.Lengths.{reading_of}
use Rattle.zvt_stream.proofs.JudgeLemmas.{after_none, after_one, after_two, one_stands, two_stand}
use Rattle.zvt_stream.proofs.judge.Judge.after.Goals as goal

pub invariant_of-t-6 : goal.invariant_of-t-6
invariant_of-t-6 c = (c.in-One.high ∷ [], one_stands (reading_of c.args.lengths) c.in-One.high c.no_levels.result c.no_levels.ensures.high c.no_levels.ensures.outer (omega arith))

pub invariant_of-result : goal.invariant_of-result
invariant_of-result c =
    let levels = c.no_levels-in-Two.ensures in
    (c.in-Two.high ∷ c.in-Two.low ∷ [], two_stand (reading_of c.args.lengths) c.in-Two.high c.in-Two.low c.no_levels-in-Two.result levels.high levels.low levels.outer (omega arith) (omega arith))

pub returns-in-One-clause-stands : goal.returns-in-One-clause-stands
returns-in-One-clause-stands c bytes are e = after_one (reading_of c.args.lengths) c.in-One.high c.no_levels.result bytes c.no_levels.ensures.high c.no_levels.ensures.outer are (sym c.in-One.is ∙ e)

pub returns-in-Two-clause-stands : goal.returns-in-Two-clause-stands
returns-in-Two-clause-stands c bytes are e =
    let levels = c.no_levels-in-Two.ensures in
    after_two (reading_of c.args.lengths) c.in-Two.high c.in-Two.low c.no_levels-in-Two.result bytes levels.high levels.low levels.outer are (sym c.in-Two.is ∙ e)

pub returns-in-Empty-clause-stands : goal.returns-in-Empty-clause-stands
returns-in-Empty-clause-stands c bytes are e = after_none (reading_of c.args.lengths) c.of.result bytes c.of.ensures.new (sym c.in-Empty.is ∙ e)
