use Rattle.std.proofs.Common.{◌≡◌, ◌+◌, ◌≤◌, length}
use Rattle.zvt_report.specs.Objects.{others_from}
use Rattle.zvt_report.proofs.objects.others.Given as goal

abbrev pub invariant-rows : goal.invariant-rows
invariant-rows l = record {
  so_far : others_from l.fn.messages 0 l.fn.rows ≡ l.found + others_from l.fn.messages l.place l.rest;
  left : l.place + length l.rest ≡ length l.fn.rows;
  bound : l.found ≤ l.place;
}

abbrev pub decreases-rows : goal.decreases-rows
decreases-rows l = length l.rest
