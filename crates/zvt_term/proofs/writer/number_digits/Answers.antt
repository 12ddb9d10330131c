use Rattle.std.proofs.Common.{◌∙◌}
use Rattle.zvt_apdu.proofs.BriefLemmas.{digits_as}
use Rattle.zvt_term.proofs.writer.number_digits.Goals as goal

pub returns : goal.returns
returns c = digits_as _ _ _ c.put.auto.out c.put.ensures.digits (c.put.ensures.value ∙ c.from.ensures)
