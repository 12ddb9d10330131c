use Rattle.zvt_json.proofs.Secrets as law
use Rattle.zvt_json.proofs.laws.safe_values_agree.Goals as goal

pub returns : goal.returns
returns c = law.safe_values_agree
