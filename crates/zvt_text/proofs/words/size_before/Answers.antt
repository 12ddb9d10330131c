use Rattle.std.proofs.Common.{sym, ◌∙◌}
use Rattle.zvt_text.proofs.WordLemmas.{found_at, not_found}
use Rattle.zvt_text.proofs.words.size_before.Goals as goal

pub returns-in-Some-clause-size : goal.returns-in-Some-clause-size
returns-in-Some-clause-size c = found_at _ c.args.words.now c.in-Some.size (sym c.first_of.ensures ∙ c.in-Some.is)

pub returns-in-None-clause-size : goal.returns-in-None-clause-size
returns-in-None-clause-size c = not_found _ c.args.words.now (sym c.first_of.ensures ∙ c.in-None.is)
