use Rattle.std.proofs.Common.{codes}
use Rattle.zvt_text.specs.Bytes.{hex_of}
use Rattle.zvt_text.proofs.RoomLemmas.{puts_more}
use Rattle.zvt_json.specs.Texts.{shut}
use Rattle.zvt_json.proofs.messages.attribute.Goals as goal

pub returns : goal.returns
returns c =
    rw c.in-Some.is
    (puts_more c.push.result _ _ _ _ _ (codes "\"attribute\":\"") _ c.in_ok-at.ensures.1 (puts_more c.push.result _ _ _ _ _ (shut (hex_of c.in-Some.attribute)) (codes ",") c.in_ok-at-2.ensures.1 c.push.ensures))
