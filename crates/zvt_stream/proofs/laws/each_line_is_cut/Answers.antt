use Rattle.zvt_stream.proofs.OpenLemmas as law
use Rattle.zvt_stream.proofs.laws.each_line_is_cut.Goals as goal

pub returns : goal.returns
returns c = law.each_line_is_cut
