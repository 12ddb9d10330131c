use Rattle.zvt_trace.proofs.MarkLemmas.{marks_read_back}
use Rattle.zvt_trace.proofs.laws.marks_read_back.Goals as goal

pub returns : goal.returns
returns c = marks_read_back
