use Rattle.std.proofs.Common.{arith}
use Rattle.std.proofs.lemmas.Grind.{common_steps}
use Rattle.zvt_kept.proofs.records.put_words.Goals as goal

pub returns-in_ok-word-in-Reverse : goal.returns-in_ok-word-in-Reverse
returns-in_ok-word-in-Reverse c = grind (arith, common_steps)
