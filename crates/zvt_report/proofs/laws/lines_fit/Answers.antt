use Rattle.zvt_report.proofs.WrappingLemmas.{lines_fit_in}
use Rattle.zvt_report.proofs.laws.lines_fit.Goals as goal

pub returns : goal.returns
returns c = lines_fit_in
