use Rattle.zvt_apdu.proofs.ViewLemmas.{same_message}
use Rattle.zvt_apdu.proofs.views.view.Goals as goal

pub returns : goal.returns
returns c m p = same_message m _ ∣ p ∣₁ c.result-1.given.0
