use Rattle.zvt_tlv.proofs.ViewLemmas.{same_forest}
use Rattle.zvt_tlv.proofs.views.ForestView.of.Goals as goal

pub returns : goal.returns
returns c f p = same_forest f _ ∣ p ∣₁ c.result-1.given.0
