use Rattle.std.proofs.Common.{rules}
use Rattle.zvt_till.proofs.messages.reply_to.Goals as goal

pub returns : goal.returns
returns c = search rules
