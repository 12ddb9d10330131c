use Rattle.zvt_stream.proofs.OpenLineLemmas as law
use Rattle.zvt_stream.proofs.laws.open_hears_strict.Goals as goal

pub returns : goal.returns
returns c = law.open_hears_strict
