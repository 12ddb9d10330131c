use Rattle.std.proofs.Common.{codes}
use Rattle.std.specs.Fmt.{decimal}
use Rattle.zvt_text.proofs.RoomLemmas.{puts_more}
use Rattle.zvt_json.specs.Texts.{name_text, opened_text}
use Rattle.zvt_json.proofs.fields.amount.Goals as goal

pub returns : goal.returns
returns c =
    puts_more c.push.result _ _ _ _ _ (opened_text c.args.bmp) _ c.in_ok-at.ensures.1
    (puts_more c.push.result _ _ _ _ _ (name_text c.args.bmp) _ c.in_ok-at-2.ensures.1
    (puts_more c.push.result _ _ _ _ _ (codes ",\"value\":") _ c.in_ok-at-3.ensures.1
    (puts_more c.push.result _ _ _ _ _ (decimal c.args.units) (codes "}") c.in_ok-at-4.ensures.1 c.push.ensures)))
