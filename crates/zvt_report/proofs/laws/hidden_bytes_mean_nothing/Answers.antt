use Rattle.zvt_report.proofs.HiddenLemmas as law
use Rattle.zvt_report.proofs.laws.hidden_bytes_mean_nothing.Goals as goal

pub returns : goal.returns
returns c = law.hidden_bytes_mean_nothing
