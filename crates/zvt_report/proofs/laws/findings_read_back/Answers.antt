use Rattle.zvt_report.proofs.FindingLemmas as law
use Rattle.zvt_report.proofs.laws.findings_read_back.Goals as goal

pub returns : goal.returns
returns c = law.findings_read_back
