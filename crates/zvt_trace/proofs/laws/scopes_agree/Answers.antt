use Rattle.zvt_trace.proofs.UnrefusedLemmas.{scopes_agree}
use Rattle.zvt_trace.proofs.laws.scopes_agree.Goals as goal

pub returns : goal.returns
returns c = scopes_agree
