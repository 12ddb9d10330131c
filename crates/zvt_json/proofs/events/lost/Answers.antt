use Rattle.std.proofs.Common.{codes}
use Rattle.std.specs.Fmt.{decimal}
use Rattle.zvt_text.proofs.RoomLemmas.{puts_more}
use Rattle.zvt_json.proofs.events.lost.Goals as goal

pub returns : goal.returns
returns c =
    puts_more c.fixed-2.result _ _ _ _ _ (codes "{\"line\":") _ c.in_ok-at.ensures.1
    (puts_more c.fixed-2.result _ _ _ _ _ (decimal c.args.line) (codes ",\"lost\":true}") c.in_ok-at-2.ensures.1 c.fixed-2.ensures)
