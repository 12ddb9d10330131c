use Rattle.zvt_stream.proofs.OpenLineLemmas as law
use Rattle.zvt_stream.proofs.laws.line_cuts_are_one.Goals as goal

pub returns : goal.returns
returns c = law.line_cuts_are_one
