use Rattle.zvt_report.proofs.SignLemmas as law
use Rattle.zvt_report.proofs.laws.swapped_as_in_audit.Goals as goal

pub returns : goal.returns
returns c = law.swapped_as_in_audit
