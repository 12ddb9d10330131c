use Rattle.std.proofs.Common.{rules}
use Rattle.zvt_till.proofs.entries.Entry.end_reversal.Goals as goal

pub returns : goal.returns
returns c = search rules

pub returns-2 : goal.returns-2
returns-2 c = search rules
