use Rattle.std.proofs.Common.{◌∙◌, inr}
use Rattle.std.proofs.lemmas.Bool.Decides.{Decides-eqb}
use Rattle.std.proofs.lemmas.Slice.Eq.{strip_prefix_is}
use Rattle.zvt_tool.proofs.ClaimLemmas.{same_prefix}
use Rattle.zvt_tool.proofs.vector_check.claims.is_claim.Goals as goal

pub returns-in-Some-strip_prefix-clause-yes : goal.returns-in-Some-strip_prefix-clause-yes
returns-in-Some-strip_prefix-clause-yes c h =
    let told = rw c.in-Some-strip_prefix.is at (strip_prefix_is Decides-eqb c.args.text.now c.as_slice-3.result.now c.strip_prefix-2.result c.strip_prefix-2.ensures.cases) in
    inr (inr (c.in-Some-strip_prefix.rest.now, c.is_refusal.ensures.yes h, told ∙ same_prefix _ _ c.in-Some-strip_prefix.rest.now c.as_slice-3.ensures))
