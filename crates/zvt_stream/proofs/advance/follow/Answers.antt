use Rattle.std.proofs.Common.{ℕ, ◌∙◌, List, ap, reverse, subst, sym}
use Rattle.zvt_stream.specs.DecoderState.{Between}
use Rattle.zvt_stream.proofs.JudgeLemmas.{pushed}
use Rattle.zvt_stream.proofs.advance.follow.Goals as goal

pub returns-in-Ok-Opens : goal.returns-in-Ok-Opens
returns-in-Ok-Opens c r b =
    rw c.in-Ok-Opens.is (rw (rw c.in-Ok-Opens.is at c.in-Ok-Opens.field-0-is) (λ h. c.settle-in-Ok-Opens.ensures r b (subst (λ (o : List ℕ). Between r c.args.goes.now.left o b) (sym (ap reverse c.push.ensures.items ∙ pushed c.args.levels.now.outer.items c.in-Ok-Opens.trailing)) h)))
