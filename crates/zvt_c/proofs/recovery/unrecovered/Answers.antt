use Rattle.std.proofs.Common.{rules}
use Rattle.zvt_c.proofs.recovery.unrecovered.Goals as goal

pub returns-in-Line : goal.returns-in-Line
returns-in-Line c = search rules
