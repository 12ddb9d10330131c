use Rattle.std.proofs.Common.{◌≡◌, ◌*◌, ◌^◌, ◌≤◌, take}
use Rattle.zvt_report.specs.CardTotals.{groups_sum}
use Rattle.zvt_report.proofs.closings.groups_sum.Given as goal

abbrev pub invariant-loop-group : goal.invariant-loop-group
invariant-loop-group l = record {
  sum : l.total ≡ groups_sum (take l.group-index l.groups);
  bound : l.total ≤ l.group-index * 2 ^ 64;
}
