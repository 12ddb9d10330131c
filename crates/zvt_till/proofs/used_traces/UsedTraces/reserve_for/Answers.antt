use Rattle.std.proofs.Common.{◌≡◌, length, arith, ap, ◌∙◌, vec_len}
use Rattle.std.proofs.lemmas.Grind.{common_steps}
use Rattle.zvt_till.specs.UsedTraces.{has}
use Rattle.zvt_till.proofs.UsedTraceLemmas.{has-grown}
use Rattle.zvt_till.proofs.used_traces.UsedTraces.reserve_for.Goals as goal

pub returns-in_ok-resize-clause-has : goal.returns-in_ok-resize-clause-has
returns-in_ok-resize-clause-has c number =
    let len : vec_len c.self.inside.words ≡ length c.self.inside.words.items = grind (arith, common_steps) in
    ap (λ words. has words number) c.in_ok-resize.ensures.items
    ∙ has-grown c.self.inside.words.items c.args.self.now 15625 (vec_len c.self.inside.words) c.self.view_is len (omega arith) number
