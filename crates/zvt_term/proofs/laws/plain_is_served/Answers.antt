use Rattle.zvt_term.proofs.ExtraLaws.{plain_is_served}
use Rattle.zvt_term.proofs.laws.plain_is_served.Goals as goal

pub returns : goal.returns
returns c = plain_is_served
