use Rattle.std.proofs.Common.{◌≡◌, true, length}
use Rattle.zvt_till.specs.Log.{line_up}
use Rattle.zvt_till.specs.Events.{IsTied}
use Rattle.zvt_till.proofs.Lines.{Reads}
use Rattle.zvt_till.proofs.events.Run.piece.Given as goal

abbrev pub invariant-messages : goal.invariant-messages
invariant-messages l =
    record {
      tied : IsTied l.self.log.items l.self.till.state l.self.sent.items;
      up : line_up l.self.log.items ≡ true;
      reads : Reads l.fn.self.log.items l.fn.stream.held l.piece l.self.log.items l.stream l.rest;
    }

abbrev pub decreases-messages : goal.decreases-messages
decreases-messages l = length l.rest
