use Rattle.zvt_report.proofs.LawLemmas.{sums_make_booked}
use Rattle.zvt_report.proofs.laws.sums_make_booked.Goals as goal

pub returns : goal.returns
returns c = sums_make_booked
