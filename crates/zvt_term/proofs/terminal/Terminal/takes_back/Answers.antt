use Rattle.std.proofs.Common.{rules}
use Rattle.zvt_term.proofs.terminal.Terminal.takes_back.Goals as goal

pub returns : goal.returns
returns c = search rules
