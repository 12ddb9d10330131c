use Rattle.zvt_service.proofs.Sent.{sent_once}
use Rattle.zvt_service.proofs.laws.sent_once.Goals as goal

pub returns : goal.returns
returns g c = let V = g.D.Device in sent_once V.seen V.may_leave V.moment V.left_since V.faults g.met.D.Device.only_now
