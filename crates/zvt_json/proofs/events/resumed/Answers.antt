use Rattle.std.proofs.Common.{codes}
use Rattle.std.specs.Fmt.{decimal}
use Rattle.zvt_json.specs.Texts.{side_text}
use Rattle.zvt_text.proofs.RoomLemmas.{puts_more}
use Rattle.zvt_json.proofs.events.resumed.Goals as goal

pub returns : goal.returns
returns c =
    puts_more c.push.result _ _ _ _ _ (side_text c.args.from c.args.line) _ c.in_ok-at.ensures.1
    (puts_more c.push.result _ _ _ _ _ (codes ",\"resumed\":") _ c.in_ok-at-2.ensures.1
    (puts_more c.push.result _ _ _ _ _ (decimal c.args.size) (codes "}") c.in_ok-at-3.ensures.1 c.push.ensures))
