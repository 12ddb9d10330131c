use Rattle.zvt_trace.proofs.MarkLemmas.{moment_rows}
use Rattle.zvt_trace.proofs.laws.moment_rows.Goals as goal

pub returns : goal.returns
returns c = moment_rows
