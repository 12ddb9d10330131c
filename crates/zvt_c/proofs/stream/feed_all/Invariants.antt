use Rattle.std.proofs.Common.{◌≤◌, ◌-◌, length}
use Rattle.zvt_c.specs.FeedingAll.{FedSoFar}
use Rattle.zvt_c.proofs.stream.feed_all.Given as goal

abbrev pub invariant-messages : goal.invariant-messages
invariant-messages l = record {
  so_far : FedSoFar l.fn.end l.piece l.fn.out l.fn.line l.end l.out l.line l.answer;
  taken : l.answer.taken ≤ length l.piece;
  send : l.answer.send ≤ length l.fn.out;
}

abbrev pub decreases-messages : goal.decreases-messages
decreases-messages l = length l.piece - l.answer.taken
