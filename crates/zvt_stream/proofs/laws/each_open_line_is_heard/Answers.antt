use Rattle.zvt_stream.proofs.OpenLineLemmas as law
use Rattle.zvt_stream.proofs.laws.each_open_line_is_heard.Goals as goal

pub returns : goal.returns
returns c = law.each_open_line_is_heard
