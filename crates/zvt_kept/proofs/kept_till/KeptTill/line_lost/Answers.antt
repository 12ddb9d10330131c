use Rattle.std.proofs.Common.{is_some}
use Rattle.zvt_settle.specs.Inside.{both_of}
use Rattle.zvt_kept.proofs.Logged.{kept_lost}
use Rattle.zvt_kept.proofs.kept_till.KeptTill.line_lost.Goals as goal

pub invariant_of-self : goal.invariant_of-self
invariant_of-self g c =
    let k = c.self.inside in
    kept_lost (is_some k.failure) (g.D.Device.seen k.journal.device) (g.D.Device.may_leave k.journal.device) k.journal.gate (both_of k.till) (both_of c.lost.new.self) c.lost.ensures.both c.self.invariant
