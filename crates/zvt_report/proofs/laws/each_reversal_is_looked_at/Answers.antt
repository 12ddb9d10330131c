use Rattle.zvt_report.proofs.LookLemmas.{each_reversal_is_looked_at}
use Rattle.zvt_report.proofs.laws.each_reversal_is_looked_at.Goals as goal

pub returns : goal.returns
returns c = each_reversal_is_looked_at
