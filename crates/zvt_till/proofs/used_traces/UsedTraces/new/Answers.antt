use Rattle.std.proofs.Common.{ap, ◌∙◌}
use Rattle.zvt_till.specs.UsedTraces.{has}
use Rattle.zvt_till.proofs.UsedTraceLemmas.{has-none}
use Rattle.zvt_till.proofs.used_traces.UsedTraces.new.Goals as goal

pub returns : goal.returns
returns c number = ap (λ words. has words number) c.new.ensures.items ∙ has-none number
