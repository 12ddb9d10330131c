use Rattle.zvt_web.proofs.Guarded.{token_holders_pass}
use Rattle.zvt_web.proofs.laws.token_holders_pass.Goals as goal

pub returns : goal.returns
returns c = token_holders_pass
