use Rattle.zvt_report.proofs.HiddenLemmas as law
use Rattle.zvt_report.proofs.laws.hidden_bytes_are_not_shown.Goals as goal

pub returns : goal.returns
returns c = law.hidden_bytes_are_not_shown c.safe_texts_agree.ensures
