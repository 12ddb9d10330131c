use Rattle.std.proofs.Common.{◌≡◌, suc, ◌+◌, length, reverse, arith, sym, ap, subst}
use Rattle.std.proofs.lemmas.List.{length-reverse}
use Rattle.zvt_grammar.specs.Reading.{Reading}
use Rattle.zvt_grammar.specs.Lengths.{reading_of}
use Rattle.zvt_stream.specs.Moves.{at_in}
use Rattle.zvt_stream.specs.Judge.{JudgeState, HasLevelsIn, StandsFor, head_at}
use Rattle.zvt_stream.proofs.JudgeLemmas.{levels_are}
use Rattle.zvt_stream.proofs.judge.Judge.levels.Goals as goal

pub returns-clause-levels : goal.returns-clause-levels
returns-clause-levels c b h =
    let count : 1 + c.len.result ≡ suc (length (reverse c.self.inside.levels.outer.items)) = omega (arith, length-reverse c.self.inside.levels.outer.items, c.len.ensures.value) in
    subst (λ (r : Reading). HasLevelsIn r b (1 + c.len.result)) (ap (λ (v : JudgeState). v.reading) c.self.view_is)
    (levels_are (reading_of c.self.inside.lengths) (at_in c.self.inside.goes c.self.inside.levels) c.self.inside.goes.left (1 + c.len.result) (reverse c.self.inside.levels.outer.items) b (head_at c.self.inside.goes.part c.self.inside.levels) count (subst (λ (v : JudgeState). StandsFor v b) (sym c.self.view_is) h))
