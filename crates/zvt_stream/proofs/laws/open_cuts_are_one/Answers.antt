use Rattle.zvt_stream.proofs.OpenLemmas as law
use Rattle.zvt_stream.proofs.laws.open_cuts_are_one.Goals as goal

pub returns : goal.returns
returns c = law.open_cuts_are_one
