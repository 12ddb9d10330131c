use Rattle.std.proofs.Common.{rules}
use Rattle.zvt_tool.proofs.vector_check.line.is_spelling.Goals as goal

pub returns-in_default-clause-yes : goal.returns-in_default-clause-yes
returns-in_default-clause-yes c = search rules
