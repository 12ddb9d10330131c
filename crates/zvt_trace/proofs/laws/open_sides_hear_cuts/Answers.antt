use Rattle.zvt_trace.proofs.OpenSideLemmas as law
use Rattle.zvt_trace.proofs.laws.open_sides_hear_cuts.Goals as goal

pub returns : goal.returns
returns c = law.open_sides_hear_cuts
