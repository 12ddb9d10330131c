use Rattle.std.proofs.Common.{rules}
use Rattle.zvt_c.proofs.records.mask.Goals as goal

pub returns-then-has_password : goal.returns-then-has_password
returns-then-has_password c = search rules
