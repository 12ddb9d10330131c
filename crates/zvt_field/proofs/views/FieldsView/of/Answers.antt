use Rattle.zvt_field.proofs.ViewLemmas.{same_fields}
use Rattle.zvt_field.proofs.views.FieldsView.of.Goals as goal

pub returns : goal.returns
returns c fields p = same_fields fields _ ∣ p ∣₁ c.result-1.given.0
