use Rattle.std.proofs.Common.{arith, get_or, ap, ◌∙◌, ◌/◌}
use Rattle.zvt_till.proofs.UsedTraceLemmas.{has-bit, has-after}
use Rattle.zvt_till.proofs.used_traces.UsedTraces.contains.Goals as goal

pub returns-in-Some : goal.returns-in-Some
returns-in-Some c =
    let word = c.in-Some.ensures.lookup.3.1 0 ∙ ap (λ words. get_or words (c.get-number.result / 64) 0) (c.deref.ensures.value ∙ c.self.view_is) in
    has-bit c.args.self.now c.args.trace c.get-number.result c.in-Some.word.now c.get-number.ensures.value word

pub returns-in-None : goal.returns-in-None
returns-in-None c =
    let word = c.in-None.ensures.lookup.4 (omega arith) 0 ∙ ap (λ words. get_or words (c.get-number.result / 64) 0) (c.deref.ensures.value ∙ c.self.view_is) in
    has-after c.args.self.now c.args.trace c.get-number.result c.get-number.ensures.value word
