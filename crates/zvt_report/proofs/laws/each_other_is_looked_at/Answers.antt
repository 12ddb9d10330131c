use Rattle.zvt_report.proofs.LookLemmas.{each_other_is_looked_at}
use Rattle.zvt_report.proofs.laws.each_other_is_looked_at.Goals as goal

pub returns : goal.returns
returns c = each_other_is_looked_at
