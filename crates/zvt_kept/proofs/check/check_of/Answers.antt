use Rattle.std.proofs.Common.{rules, []}
use Rattle.zvt_kept.proofs.CheckLemmas.{check_digits}
use Rattle.zvt_kept.proofs.check.check_of.Goals as goal

pub returns : goal.returns
returns c text holds = check_digits c.hexadecimal.result c.finalize-digest.result [] c.hexadecimal.new.buffer text (c.finalize-digest.ensures text holds) (search rules) (search rules) c.hexadecimal.ensures
