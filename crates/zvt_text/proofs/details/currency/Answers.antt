use Rattle.std.proofs.Common.{codes}
use Rattle.zvt_text.specs.MessageTexts.{four_digits}
use Rattle.zvt_text.proofs.RoomLemmas.{puts_more}
use Rattle.zvt_text.proofs.details.currency.Goals as goal

pub returns : goal.returns
returns c = rw (c.in-Some.is, ← c.get.ensures.value) (puts_more c.four_digits.result _ _ _ _ _ (codes " currency ") (four_digits c.get.result) c.in_ok-at.ensures.1 c.four_digits.ensures)
