use Rattle.zvt_web.proofs.Refusing.{gives_or_memory}
use Rattle.zvt_web.proofs.sending.send_end.Goals as goal

pub returns-clause-outcome : goal.returns-clause-outcome
returns-clause-outcome c = gives_or_memory c.write_end.result _ _ _ c.write_end.ensures.outcome
