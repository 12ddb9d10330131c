use Rattle.std.proofs.Common.{rules}
use Rattle.zvt_trace.proofs.chunks.Walker.hold.Goals as goal

pub returns-clause-held : goal.returns-clause-held
returns-clause-held c = search rules
