use Rattle.zvt_till.proofs.RulesLemmas.{rules_keep_books}
use Rattle.zvt_till.proofs.laws.rules_keep_books.Goals as goal

pub returns : goal.returns
returns c = rules_keep_books
