use Rattle.std.proofs.Common.{rules}
use Rattle.zvt_c.proofs.numbers.doubt_numbers.Goals as goal

pub returns-in-Unclear : goal.returns-in-Unclear
returns-in-Unclear c = search rules
