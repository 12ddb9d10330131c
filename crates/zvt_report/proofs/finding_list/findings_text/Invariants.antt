use Rattle.std.proofs.Common.{◌≡◌, ◌+◌, ◌≤◌, ◌++◌, length}
use Rattle.zvt_report.specs.FindingList.{findings_text}
use Rattle.zvt_report.proofs.finding_list.findings_text.Given as goal

abbrev pub invariant-findings : goal.invariant-findings
invariant-findings l = record {
  so_far : l.text ++ findings_text l.fn.decimals l.listed l.rest ≡ l.initial.text ++ findings_text l.fn.decimals l.fn.before l.fn.findings;
  few : l.listed + length l.rest ≤ l.fn.before + length l.fn.findings;
}

abbrev pub decreases-findings : goal.decreases-findings
decreases-findings l = length l.rest
