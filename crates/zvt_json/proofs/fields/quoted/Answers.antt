use Rattle.std.proofs.Common.{codes}
use Rattle.zvt_text.specs.Bytes.{escaped_text}
use Rattle.zvt_text.proofs.RoomLemmas.{puts_more}
use Rattle.zvt_json.specs.Texts.{name_text, opened_text, shut}
use Rattle.zvt_json.proofs.fields.quoted.Goals as goal

pub returns : goal.returns
returns c =
    puts_more c.push.result _ _ _ _ _ (opened_text c.args.bmp) _ c.in_ok-at.ensures.1
    (puts_more c.push.result _ _ _ _ _ (name_text c.args.bmp) _ c.in_ok-at-2.ensures.1
    (puts_more c.push.result _ _ _ _ _ (codes ",\"text\":\"") _ c.in_ok-at-3.ensures.1
    (puts_more c.push.result _ _ _ _ _ (shut (escaped_text c.args.content.now)) (codes "}") c.in_ok-at-4.ensures.1 c.push.ensures)))
