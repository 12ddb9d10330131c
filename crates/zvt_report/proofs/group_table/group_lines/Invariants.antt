use Rattle.std.proofs.Common.{◌≡◌, ◌++◌, take}
use Rattle.zvt_report.specs.GroupTable.{group_lines}
use Rattle.zvt_report.proofs.group_table.group_lines.Given as goal

abbrev pub invariant-loop-group : goal.invariant-loop-group
invariant-loop-group l = l.text ≡ l.initial.text ++ group_lines l.decimals (take l.group-index l.groups)
