use Rattle.zvt_term.proofs.ExtraLaws.{repeats_change_nothing}
use Rattle.zvt_term.proofs.laws.repeats_change_nothing.Goals as goal

pub returns : goal.returns
returns c = repeats_change_nothing
