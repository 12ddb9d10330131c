use Rattle.std.proofs.Common.{map, take}
use Rattle.zvt_runs.specs.Plans.{Plans}
use Rattle.zvt_runs.proofs.plans.plan_words.Given as goal

abbrev pub invariant-words : goal.invariant-words
invariant-words l = Plans l.ends (take l.at (map (λ word. word.now) l.words)) l.plan.items
