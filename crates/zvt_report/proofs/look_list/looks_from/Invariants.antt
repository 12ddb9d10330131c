use Rattle.std.proofs.Common.{◌≡◌, ◌+◌, ◌≤◌, ◌++◌, length}
use Rattle.zvt_report.specs.LookList as list
use Rattle.zvt_report.proofs.look_list.looks_from.Given as goal

abbrev pub invariant-looks : goal.invariant-looks
invariant-looks l = record {
  so_far : l.text ++ list.looks_from l.decimals l.book l.closings l.messages l.rows l.urgent l.listed l.rest
      ≡ l.initial.text ++ list.looks_from l.decimals l.book l.closings l.messages l.rows l.urgent l.before l.looks;
  few : l.listed + length l.rest ≤ l.before + length l.looks;
}

abbrev pub decreases-looks : goal.decreases-looks
decreases-looks l = length l.rest
