use Rattle.std.proofs.Common.{ℕ, List, [], take}
use Rattle.zvt_till.specs.Events.{IsTied, Leads, HoldsLine}
use Rattle.zvt_till.proofs.events.replay.Given as goal

abbrev pub invariant-loop-event : goal.invariant-loop-event
invariant-loop-event l =
    record {
      tied : IsTied l.run.log.items l.run.till.state l.run.sent.items;
      line : (bytes : List ℕ) × Leads [] [] (take l.event-index l.events) l.run.log.items bytes × HoldsLine l.run.log.items bytes l.stream;
    }
