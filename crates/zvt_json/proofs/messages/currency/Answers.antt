use Rattle.std.proofs.Common.{codes}
use Rattle.zvt_text.specs.MessageTexts.{four_digits}
use Rattle.zvt_text.proofs.RoomLemmas.{puts_more}
use Rattle.zvt_json.proofs.messages.currency.Goals as goal

pub returns : goal.returns
returns c =
    rw (c.in-Some.is, ← c.get.ensures.value)
    (puts_more c.fixed-2.result _ _ _ _ _ (codes "\"currency\":\"") _ c.in_ok-at.ensures.1
    (puts_more c.fixed-2.result _ _ _ _ _ (four_digits c.get.result) (codes "\",") c.in_ok-at-2.ensures.1 c.fixed-2.ensures))
