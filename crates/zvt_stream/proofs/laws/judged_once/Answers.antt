use Rattle.zvt_stream.proofs.CountLemmas as law
use Rattle.zvt_stream.proofs.laws.judged_once.Goals as goal

pub returns : goal.returns
returns c = law.judged_once
