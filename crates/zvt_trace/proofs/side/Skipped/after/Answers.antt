use Rattle.std.proofs.Common.{rules}
use Rattle.zvt_trace.proofs.side.Skipped.after.Goals as goal

pub returns-in-Some : goal.returns-in-Some
returns-in-Some c = search rules
