use Rattle.std.proofs.Common.{rules}
use Rattle.zvt_journal.proofs.content.is_named.Goals as goal

pub returns : goal.returns
returns c = search rules
