use Rattle.std.proofs.Common.{rules}
use Rattle.zvt_term.proofs.terminal.Terminal.authorises.Goals as goal

pub returns-in-Approve : goal.returns-in-Approve
returns-in-Approve c = search rules

pub returns-in-Decline : goal.returns-in-Decline
returns-in-Decline c = search rules
