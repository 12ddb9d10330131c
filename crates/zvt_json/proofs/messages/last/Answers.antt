use Rattle.std.proofs.Common.{rules}
use Rattle.zvt_json.proofs.messages.last.Goals as goal

pub returns-in-Abort : goal.returns-in-Abort
returns-in-Abort c = search rules
