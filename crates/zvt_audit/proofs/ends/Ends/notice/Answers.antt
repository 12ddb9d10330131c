use Rattle.std.proofs.Common.{rules}
use Rattle.zvt_audit.proofs.ends.Ends.notice.Goals as goal

pub returns : goal.returns
returns c = search rules
