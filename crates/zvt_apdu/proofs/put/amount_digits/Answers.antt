use Rattle.std.proofs.Common.{◌∙◌}
use Rattle.zvt_apdu.proofs.BriefLemmas.{digits_as}
use Rattle.zvt_apdu.proofs.put.amount_digits.Goals as goal

pub returns-clause-spelled : goal.returns-clause-spelled
returns-clause-spelled c = digits_as _ _ _ c.put.auto.out c.put.ensures.digits (c.put.ensures.value ∙ c.get.ensures.value)
