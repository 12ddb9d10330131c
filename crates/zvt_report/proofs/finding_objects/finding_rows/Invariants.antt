use Rattle.std.proofs.Common.{◌≡◌, ◌++◌, take}
use Rattle.zvt_report.specs.FindingObjects.{findings_json}
use Rattle.zvt_report.proofs.finding_objects.finding_rows.Given as goal

abbrev pub invariant-loop-finding : goal.invariant-loop-finding
invariant-loop-finding l = l.text ≡ l.initial.text ++ findings_json l.fn.decimals (take l.finding-index l.findings)
