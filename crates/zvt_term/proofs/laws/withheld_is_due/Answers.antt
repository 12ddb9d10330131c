use Rattle.zvt_term.proofs.Withholding.{withheld_is_due}
use Rattle.zvt_term.proofs.laws.withheld_is_due.Goals as goal

pub returns : goal.returns
returns c = withheld_is_due
