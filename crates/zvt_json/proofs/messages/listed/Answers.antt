use Rattle.std.proofs.Common.{codes, false}
use Rattle.serde_json.specs.Written.{items_text}
use Rattle.zvt_text.proofs.RoomLemmas.{puts_more}
use Rattle.zvt_json.specs.Fields.{field_values}
use Rattle.zvt_json.proofs.messages.listed.Goals as goal

pub returns : goal.returns
returns c =
    rw c.in-Some.is
    (puts_more c.push.result _ _ _ _ _ (codes "\"fields\":[") _ c.in_ok-at.ensures.1 (puts_more c.push.result _ _ _ _ _ (items_text false (field_values c.in-Some.list)) (codes ",") c.in_ok-at-2.ensures.1 c.push.ensures))
