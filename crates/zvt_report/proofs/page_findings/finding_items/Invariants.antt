use Rattle.std.proofs.Common.{◌≡◌, ◌++◌, length}
use Rattle.zvt_page.specs.Html.{render}
use Rattle.zvt_report.specs.PageFindings.{finding_items}
use Rattle.zvt_report.proofs.page_findings.finding_items.Given as goal

abbrev pub invariant-findings : goal.invariant-findings
invariant-findings l = l.page ++ render (finding_items l.shown l.decimals l.rest) ≡ l.initial.page ++ render (finding_items l.shown l.decimals l.findings)

abbrev pub decreases-findings : goal.decreases-findings
decreases-findings l = length l.rest
