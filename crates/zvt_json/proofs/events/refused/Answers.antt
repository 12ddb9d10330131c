use Rattle.std.proofs.Common.{codes, length}
use Rattle.zvt_json.specs.Texts.{reason_text, side_text}
use Rattle.zvt_text.proofs.RoomLemmas.{puts_more}
use Rattle.zvt_json.proofs.events.refused.Goals as goal

pub returns : goal.returns
returns c =
    puts_more c.push.result _ _ _ _ _ (side_text c.args.from c.args.line) _ c.in_ok-at.ensures.1
    (puts_more c.push.result _ _ _ _ _ (codes ",\"refused\":") _ c.in_ok-at-2.ensures.1
    (puts_more c.push.result _ _ _ _ _ (reason_text c.args.refusal.byte (length c.args.refusal.before.now) c.args.refusal.why) (codes "}") (rw c.place-place.ensures at c.in_ok-at-3.ensures.1) c.push.ensures))
