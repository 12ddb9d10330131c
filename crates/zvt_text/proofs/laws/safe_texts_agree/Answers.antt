use Rattle.zvt_text.proofs.Secrets as law
use Rattle.zvt_text.proofs.laws.safe_texts_agree.Goals as goal

pub returns : goal.returns
returns c = law.safe_texts_agree
