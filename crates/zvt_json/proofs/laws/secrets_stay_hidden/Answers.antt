use Rattle.zvt_json.proofs.Secrets as law
use Rattle.zvt_json.proofs.laws.secrets_stay_hidden.Goals as goal

pub returns-clause-passwords : goal.returns-clause-passwords
returns-clause-passwords c = law.passwords_stay_hidden

pub returns-clause-fields : goal.returns-clause-fields
returns-clause-fields c = law.secrets_stay_hidden
