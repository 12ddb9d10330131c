use Rattle.std.proofs.Common.{rules}
use Rattle.zvt_kept.proofs.keeping.answers_to.Goals as goal

pub returns-in-Some-clause-answers : goal.returns-in-Some-clause-answers
returns-in-Some-clause-answers c = search rules
