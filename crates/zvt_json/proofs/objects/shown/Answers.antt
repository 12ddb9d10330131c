use Rattle.std.proofs.Common.{codes}
use Rattle.hex.specs.Hex.{encode_upper}
use Rattle.zvt_text.proofs.RoomLemmas.{puts_more}
use Rattle.zvt_json.specs.Texts.{shut, tag_text}
use Rattle.zvt_json.proofs.objects.shown.Goals as goal

pub returns : goal.returns
returns c =
    puts_more c.tag.result _ _ _ _ _ (codes "{\"content\":\"") _ c.in_ok-at.ensures.1
    (puts_more c.tag.result _ _ _ _ _ (shut (encode_upper c.args.content.now)) (tag_text c.args.name.now) c.in_ok-at-2.ensures.1 c.tag.ensures)
