use Rattle.zvt_report.proofs.HiddenFindings as law
use Rattle.zvt_report.proofs.laws.hidden_bytes_are_not_found.Goals as goal

pub returns : goal.returns
returns c = law.hidden_bytes_are_not_found
