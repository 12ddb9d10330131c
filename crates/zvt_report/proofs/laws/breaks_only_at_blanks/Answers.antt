use Rattle.zvt_report.proofs.WrappingLemmas.{breaks_only_at_blanks}
use Rattle.zvt_report.proofs.laws.breaks_only_at_blanks.Goals as goal

pub returns : goal.returns
returns c = breaks_only_at_blanks
