use Rattle.std.proofs.Common.{arith, ◌∙◌, ◌<◌, ◌/◌, length}
use Rattle.std.proofs.lemmas.Grind.{common_steps, get_or_default_zero}
use Rattle.zvt_till.proofs.UsedTraceLemmas.{has-inserted}
use Rattle.zvt_till.proofs.used_traces.UsedTraces.insert.Goals as goal

pub returns-clause-has : goal.returns-clause-has
returns-clause-has c =
    let within : c.get-number.result / 64 < length c.self.inside.words.items = grind (arith, common_steps) in
    has-inserted c.self.inside.words.items c.args.self.now c.args.trace c.get-number.result c.index_mut.result.now c.self.view_is c.get-number.ensures.value within (c.index_mut.ensures.value ∙ get_or_default_zero c.self.inside.words.items (c.get-number.result / 64) c.index_mut.result.now within)
