use Rattle.zvt_report.proofs.LawLemmas.{same_books}
use Rattle.zvt_report.proofs.laws.same_books.Goals as goal

pub returns : goal.returns
returns c = same_books
