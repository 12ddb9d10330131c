use Rattle.std.proofs.Common.{rules}
use Rattle.zvt_play.proofs.texts.difference_text.Goals as goal

pub returns : goal.returns
returns c = search rules
