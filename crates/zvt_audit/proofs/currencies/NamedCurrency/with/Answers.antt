use Rattle.std.proofs.Common.{rules}
use Rattle.zvt_audit.proofs.currencies.NamedCurrency.with.Goals as goal

pub returns-then-get : goal.returns-then-get
returns-then-get c = search rules
