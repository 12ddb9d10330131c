use Rattle.std.proofs.Common.{◌≡◌, ◌+◌, length}
use Rattle.zvt_report.specs.Looks.{confirmed_in}
use Rattle.zvt_report.proofs.later_orders.confirmed_in.Given as goal

abbrev pub invariant-rows : goal.invariant-rows
invariant-rows l = record {
  so_far : confirmed_in l.amount l.messages l.at l.rest ≡ confirmed_in l.amount l.messages l.place l.later;
  left : l.at + length l.rest ≡ l.place + length l.later;
}

abbrev pub decreases-rows : goal.decreases-rows
decreases-rows l = length l.rest
