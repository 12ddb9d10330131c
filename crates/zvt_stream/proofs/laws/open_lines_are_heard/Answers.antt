use Rattle.zvt_stream.proofs.OpenLineLemmas as law
use Rattle.zvt_stream.proofs.laws.open_lines_are_heard.Goals as goal

pub returns : goal.returns
returns c = law.open_lines_are_heard
