use Rattle.std.proofs.Common.{true, sym, subst}
use Rattle.zvt_settle.specs.Inside.{both_of}
use Rattle.zvt_kept.specs.Reading.{kept_of}
use Rattle.zvt_kept.specs.Recovery.{Replays}
use Rattle.zvt_kept.proofs.Replayed.{lost_replays}
use Rattle.zvt_kept.proofs.recovery.relive.Goals as goal

pub returns-in-Lost : goal.returns-in-Lost
returns-in-Lost c =
    subst (λ e. Replays true (kept_of e) (both_of c.args.till.now) (both_of c.connected.new.self)) (sym c.in-Lost.is)
    (lost_replays (both_of c.args.till.now) (both_of c.lost.new.self) (both_of c.connected.new.self) c.lost.ensures.both c.connected.ensures.both)
