use Rattle.zvt_stream.proofs.OpenLemmas as law
use Rattle.zvt_stream.proofs.laws.open_is_strict.Goals as goal

pub returns : goal.returns
returns c = law.open_is_strict
