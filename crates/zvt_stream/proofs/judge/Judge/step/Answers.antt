use Rattle.std.proofs.Common.{◌++◌, ◌∷◌, [], ◌∙◌, ap, reverse, subst, sym, length}
use Rattle.zvt_grammar.specs.Reading.{Reading}
use Rattle.zvt_grammar.specs.Lengths.{reading_of}
use Rattle.zvt_stream.specs.Apdus.{IsRefusedIn}
use Rattle.zvt_stream.specs.Judge.{IsMessageIn, JudgeState, StandsFor, start}
use Rattle.zvt_stream.proofs.JudgeLemmas.{begun_anew, start_stands}
use Rattle.zvt_stream.proofs.judge.Judge.step.Goals as goal

pub invariant_of-self : goal.invariant_of-self
invariant_of-self c =
    let is = c.self.invariant in
    (is.0 ++ c.args.byte ∷ [], rw c.in-Ok-Open.field-0-is at (c.in-Ok-Open.ensures.judged is.0 is.1))

pub invariant_of-self-in-Ok-Ended : goal.invariant_of-self-in-Ok-Ended
invariant_of-self-in-Ok-Ended c =
    let is = c.self.invariant in
    let q = rw c.in-Ok-Ended.field-0-is at (c.in-Ok-Ended.ensures.judged is.0 is.1) in
    ([], start_stands (reading_of c.self.inside.lengths) c.beginning-self-inside.result c.step.new.levels c.beginning-self-inside.ensures q.1)

pub invariant_of-self-in-Err : goal.invariant_of-self-in-Err
invariant_of-self-in-Err c = ([], start_stands (reading_of c.self.inside.lengths) c.beginning-self-inside-in-Err.result _ c.beginning-self-inside-in-Err.ensures (ap reverse c.clear.ensures))

pub returns-in-Ok-Open-clause-judged : goal.returns-in-Ok-Open-clause-judged
returns-in-Ok-Open-clause-judged c b h =
    let s = subst (λ (v : JudgeState). StandsFor v b) (sym c.self.view_is) h in
    let q = rw c.in-Ok-Open.field-0-is at (c.in-Ok-Open.ensures.judged b s) in
    (q, ap (λ (v : JudgeState). v.reading) c.self.view_is)

pub returns-in-Ok-Ended-clause-judged : goal.returns-in-Ok-Ended-clause-judged
returns-in-Ok-Ended-clause-judged c b h =
    let s = subst (λ (v : JudgeState). StandsFor v b) (sym c.self.view_is) h in
    let q = rw c.in-Ok-Ended.field-0-is at (c.in-Ok-Ended.ensures.judged b s) in
    let same = ap (λ (v : JudgeState). v.reading) c.self.view_is in
    (subst (λ (r : Reading). IsMessageIn r (b ++ c.args.byte ∷ [])) same q.0, begun_anew (reading_of c.self.inside.lengths) c.beginning-self-inside.result c.step.new.levels c.beginning-self-inside.ensures q.1 ∙ ap start same)

pub returns-in-Err-clause-judged : goal.returns-in-Err-clause-judged
returns-in-Err-clause-judged c b h =
    let s = subst (λ (v : JudgeState). StandsFor v b) (sym c.self.view_is) h in
    let q = c.in-Err.ensures.judged b s in
    let same = ap (λ (v : JudgeState). v.reading) c.self.view_is in
    (subst (λ (r : Reading). IsRefusedIn r (b ++ c.args.byte ∷ []) (length b) c.in-Err.why) same q, begun_anew (reading_of c.self.inside.lengths) c.beginning-self-inside-in-Err.result _ c.beginning-self-inside-in-Err.ensures (ap reverse c.clear.ensures) ∙ ap start same)
