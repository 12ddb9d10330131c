use Rattle.std.proofs.Common.{length, sym, subst}
use Rattle.zvt_grammar.specs.Lengths.{reading_of}
use Rattle.zvt_stream.specs.Judge.{HasRoomFor, JudgeState, Ran, StandsFor, state_of}
use Rattle.zvt_stream.proofs.JudgeLemmas.{ran_judge}
use Rattle.zvt_stream.proofs.judge.Judge.run.Goals as goal

pub run-requires : goal.run-requires
run-requires c = subst (λ (v : JudgeState). HasRoomFor v (length c.args.bytes.now) (length c.args.room.now)) (sym c.self.view_is) c.requires

pub invariant_of-self : goal.invariant_of-self
invariant_of-self c =
    let is = c.self.invariant in
    ran_judge (reading_of c.self.inside.lengths) is.0 c.args.bytes.now c.run.result _ (c.run.ensures.judged is.0 is.1)

pub returns-clause-judged : goal.returns-clause-judged
returns-clause-judged c held h =
    let s = subst (λ (v : JudgeState). StandsFor v held) (sym c.self.view_is) h in
    let new = state_of (reading_of c.self.inside.lengths) c.run.new.goes c.run.new.levels in
    subst (λ (v : JudgeState). Ran v.reading held c.args.bytes.now c.run.result new) c.self.view_is (c.run.ensures.judged held s)
