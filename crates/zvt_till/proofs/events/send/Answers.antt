use Rattle.zvt_till.proofs.Runs.{sent-more}
use Rattle.zvt_till.proofs.events.send.Goals as goal

pub returns : goal.returns
returns c = sent-more _ _ _ _ _ _ c.put-size.ensures.written c.in_ok-extend_from_slice.ensures.items
