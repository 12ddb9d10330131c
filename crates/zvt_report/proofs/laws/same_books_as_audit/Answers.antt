use Rattle.zvt_report.proofs.ReportedLemmas.{same_books_as_audit}
use Rattle.zvt_report.proofs.laws.same_books_as_audit.Goals as goal

pub returns : goal.returns
returns c = same_books_as_audit
