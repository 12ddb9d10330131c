use Rattle.zvt_text.proofs.RoomLemmas.{put_after}
use Rattle.zvt_text.proofs.text.put_after.Goals as goal

pub returns-clause-puts : goal.returns-clause-puts
returns-clause-puts g c = put_after c.args.size c.in_ok-end.end c.args.buffer.now c.put.new.buffer _ _ c.requires (c.in_ok-end.ensures).0 (c.in_ok-end.ensures).1
