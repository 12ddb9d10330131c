use Rattle.zvt_trace.proofs.MarkLemmas.{mark_rows}
use Rattle.zvt_trace.proofs.laws.mark_rows.Goals as goal

pub returns : goal.returns
returns c = mark_rows
