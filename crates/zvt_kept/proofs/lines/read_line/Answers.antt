use Rattle.std.proofs.Common.{rules}
use Rattle.zvt_kept.proofs.lines.read_line.Goals as goal

pub returns-in-33 : goal.returns-in-33
returns-in-33 c = search rules
