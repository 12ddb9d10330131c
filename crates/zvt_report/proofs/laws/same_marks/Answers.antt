use Rattle.zvt_report.proofs.MarkLemmas.{same_marks}
use Rattle.zvt_report.proofs.laws.same_marks.Goals as goal

pub returns : goal.returns
returns c = same_marks
