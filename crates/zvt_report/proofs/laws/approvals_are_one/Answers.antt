use Rattle.zvt_report.proofs.ApprovalLemmas as law
use Rattle.zvt_report.proofs.FindingLemmas as findings
use Rattle.zvt_report.proofs.laws.approvals_are_one.Goals as goal

pub returns : goal.returns
returns c = record { bytes = law.approvals_are_one; findings = findings.findings_are_one }
