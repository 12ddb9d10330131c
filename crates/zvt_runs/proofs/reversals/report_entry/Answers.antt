use Rattle.std.proofs.Common.{rules}
use Rattle.zvt_runs.proofs.reversals.report_entry.Goals as goal

pub returns-in-Unclear-clause-bytes : goal.returns-in-Unclear-clause-bytes
returns-in-Unclear-clause-bytes g c = search rules
